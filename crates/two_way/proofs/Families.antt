-- The events of queries, and the families of their answers.
use Rattle.std.proofs.Common.{◌≡◌, ℕ, ◌+◌, ◌<◌, ◌≤◌, Bool, ◌==◌, List, [], ◌∷◌, ◌++◌, refl, sym, ap, subst, ◌∙◌, inl, inr, ⊎_elim, arith}
use Rattle.std.specs.Prelude.{◌↔◌, Contains, if◌then◌else◌}
use Rattle.std.specs.List.Sorted.{IsStrictlySortedBy}
use Rattle.std.proofs.lemmas.Bool.{eq-eqb, ne_eqb, cases_order}
use Rattle.std.proofs.lemmas.List.Elements.{Contains-append_left, Contains-append_right, Contains-append_cases}
use Rattle.rpq_base.specs.Laws.{SameIsEqual}
use Rattle.rpq_base.specs.declared.data.Entry.{Entry}
use Rattle.rpq_base.specs.declared.data.Pair.{Pair}
use Rattle.rpq_base.specs.declared.data.Event.{Event}
use Rattle.rpq_base.proofs.Members.{none_in}
use Rattle.rpq_base.proofs.Sorted.{sorted_nil, same_from_members}
use Rattle.rpq_model.specs.Window.{clock}
use Rattle.rpq_model.specs.Answers.{PathQuery, IsAnswer, AreAnswers}
use Rattle.rpq_model.specs.Events.{changes, AreEvents}
use Rattle.rpq_model.specs.EventLaws.{IsChange}
use Rattle.rpq_model.specs.Query.{Query, path_query}
use Rattle.rpq_model.specs.QueryEvents.{AreEventsUnder}
use Rattle.rpq_model.proofs.ByMembers.{events_are_changes}
use Rattle.rpq_model.proofs.OneAnswer.{answers_are_one}
use Rattle.two_way.specs.Differences.{Family, event_cmp, AreDifference, AreAnswersUnder}
use Rattle.two_way.specs.Laws.{EventsAreDifferences}
use Rattle.two_way.proofs.EventOrder.{event_cmp_total, event_cmp_exact, before_later, sorted_append, sorted_changes}

-- ---- the family of the answers of queries

-- the family with this list under a number
abbrev put : ℕ → List Pair → Family → Family
put number pairs family = λ each. if each == number then pairs else family each

put_here : (number : ℕ) (pairs : List Pair) (family : Family) → put number pairs family number ≡ pairs
put_here number pairs family = ap (λ (test : Bool). if test then pairs else family number) (eq-eqb number number refl)

put_later : (number : ℕ) (pairs : List Pair) (family : Family) (each : ℕ) → number < each → put number pairs family each ≡ family each
put_later number pairs family each above =
    ap (λ (test : Bool). if test then pairs else family each) (ne_eqb each number (λ e. absurd (omega (arith, e, above))))

-- families that agree from a number on have the same answers from there on
agreeing : (queries : List Query) (number : ℕ) (history : List Entry) (family other : Family) →
    ((each : ℕ) → number ≤ each → other each ≡ family each) →
    AreAnswersUnder number queries history family → AreAnswersUnder number queries history other
agreeing [] number history family other same are = λ later above. same later above ∙ are later above
agreeing (query ∷ queries) number history family other same are = (
  subst (AreAnswers (path_query query) history) (sym (same number (omega arith))) are.0,
  agreeing queries (number + 1) history family other (λ each above. same each (omega (arith, above))) are.1,
)

-- the answers of one query more in front
with_first : (query : Query) (queries : List Query) (number : ℕ) (history : List Entry) (pairs : List Pair) (family : Family) →
    AreAnswers (path_query query) history pairs → AreAnswersUnder (number + 1) queries history family →
    AreAnswersUnder number (query ∷ queries) history (put number pairs family)
with_first query queries number history pairs family own others = (
  subst (AreAnswers (path_query query) history) (sym (put_here number pairs family)) own,
  agreeing queries (number + 1) history family (put number pairs family)
      (λ each above. put_later number pairs family each (omega (arith, above))) others,
)

-- a family for each of two histories
pub record HaveFamilies (number : ℕ) (queries : List Query) (before after : List Entry) : Type 0 where
  pub old : Family
  pub new : Family
  pub old_are : AreAnswersUnder number queries before old
  pub new_are : AreAnswersUnder number queries after new

pub families_of : (queries : List Query) (number : ℕ) (before after : List Entry) (events : List Event) →
    AreEventsUnder number queries before after events → HaveFamilies number queries before after
families_of [] number before after events are = record {
  old = λ each. [];
  new = λ each. [];
  old_are = λ later above. refl;
  new_are = λ later above. refl;
}
families_of (query ∷ queries) number before after events are =
    let own = are.2 in
    let rest = families_of queries (number + 1) before after are.1 are.3 in
    record {
      old = put number own.0 rest.old;
      new = put number own.1 rest.new;
      old_are = with_first query queries number before own.0 rest.old own.2 rest.old_are;
      new_are = with_first query queries number after own.1 rest.new own.3 rest.new_are;
    }

-- a history has one family
families_are_one : (queries : List Query) (number : ℕ) (history : List Entry) (family other : Family) (each : ℕ) →
    AreAnswersUnder number queries history family → AreAnswersUnder number queries history other → number ≤ each → family each ≡ other each
families_are_one [] number history family other each are others_are above = are each above ∙ sym (others_are each above)
families_are_one (query ∷ queries) number history family other each are others_are above = ⊎_elim
    (λ same.
    subst (λ (at : ℕ). family at ≡ other at) same
    (answers_are_one (path_query query) (clock history) history (family number) (other number) are.0 others_are.0))
    (λ differ. families_are_one queries (number + 1) history family other each are.1 others_are.1
    (⊎_elim (λ below. omega (arith, below)) (λ further. absurd (omega (arith, further, above))) differ))
    (cases_order number each)

pub one_family : (queries : List Query) (history : List Entry) (family other : Family) →
    AreAnswersUnder 0 queries history family → AreAnswersUnder 0 queries history other → family ≡ other
one_family queries history family other are others_are =
    λ i each. families_are_one queries 0 history family other each are others_are (omega arith) i

-- ---- the events are the changes between the families

-- the events are the changes under a number and those behind it, in their order
record AreChangesFrom (number : ℕ) (old new : Family) (events : List Event) : Type 0 where
  pub sorted : IsStrictlySortedBy event_cmp events
  pub exact : (each : Event) → Contains events each
      ↔ ((number ≤ each.query) × IsChange (Contains (old each.query)) (Contains (new each.query)) each)

-- a change between answers is one between the lists of them
listed : (query : PathQuery) (before after : List Entry) (old new : List Pair) (each : Event) →
    AreAnswers query before old → AreAnswers query after new →
    IsChange (IsAnswer query before) (IsAnswer query after) each ↔ IsChange (Contains old) (Contains new) each
listed query before after old new each old_are new_are =
    let was = old_are.exact each.pair in
    let is = new_are.exact each.pair in (
      (λ change. ⊎_elim
          (λ loss. inl (loss.0, was.1 loss.1, λ there. loss.2 (is.0 there)))
          (λ gain. inr (gain.0, is.1 gain.1, λ there. gain.2 (was.0 there)))
          change),
      (λ change. ⊎_elim
          (λ loss. inl (loss.0, was.0 loss.1, λ there. loss.2 (is.1 there)))
          (λ gain. inr (gain.0, is.0 gain.1, λ there. gain.2 (was.1 there)))
          change),
    )

-- those of one query
record AreOwn (number : ℕ) (old new : Family) (events : List Event) : Type 0 where
  pub sorted : IsStrictlySortedBy event_cmp events
  pub exact : (each : Event) → Contains events each
      ↔ ((each.query ≡ number) × IsChange (Contains (old number)) (Contains (new number)) each)

own_changes : SameIsEqual → (query : PathQuery) (number : ℕ) (before after : List Entry) (old new : Family) (events : List Event) →
    AreAnswers query before (old number) → AreAnswers query after (new number) → AreEvents query number before after events →
    AreOwn number old new events
own_changes same query number before after old new events old_are new_are are = record {
  sorted = subst (IsStrictlySortedBy event_cmp) (sym are.4) (sorted_changes number are.0 are.1 are.2.sorted are.3.sorted);
  exact = λ each.
      let members = events_are_changes same query number before after events are each in
      let lists = listed query before after (old number) (new number) each old_are new_are in (
        (λ member. let change = members.0 member in (change.0, lists.0 change.1)),
        (λ change. members.1 (change.0, lists.1 change.1)),
      );
}

-- and of those behind it
both_changes : (number : ℕ) (old new : Family) (own others : List Event) → AreOwn number old new own →
    AreChangesFrom (number + 1) old new others → AreChangesFrom number old new (own ++ others)
both_changes number old new own others own_are others_are = record {
  sorted = sorted_append own others own_are.sorted others_are.sorted
      (λ each other early late.
      let first = ((own_are.exact each).0 early).0 in
      let second = ((others_are.exact other).0 late).0 in
      before_later each other (omega (arith, first, second)));
  exact = λ each. (
    (λ member. ⊎_elim
        (λ early. let change = (own_are.exact each).0 early in
        (omega (arith, change.0), subst (λ (at : ℕ). IsChange (Contains (old at)) (Contains (new at)) each) (sym change.0) change.1))
        (λ late. let change = (others_are.exact each).0 late in (omega (arith, change.0), change.1))
        (Contains-append_cases own others each member)),
    (λ change. ⊎_elim
        (λ same. Contains-append_left own others each ((own_are.exact each).1
        (sym same, subst (λ (at : ℕ). IsChange (Contains (old at)) (Contains (new at)) each) (sym same) change.1)))
        (λ differ. Contains-append_right own others each ((others_are.exact each).1
        (⊎_elim (λ below. omega (arith, below)) (λ further. absurd (omega (arith, further, change.0))) differ, change.1)))
        (cases_order number each.query)),
  );
}

no_change : (number : ℕ) (old new : Family) → ((later : ℕ) → number ≤ later → old later ≡ []) → ((later : ℕ) → number ≤ later → new later ≡ []) →
    AreChangesFrom number old new []
no_change number old new old_none new_none = record {
  sorted = sorted_nil event_cmp;
  exact = λ each. (
    (λ member. absurd (none_in each member)),
    (λ change. absurd (⊎_elim
        (λ loss. none_in each.pair (subst (λ (pairs : List Pair). Contains pairs each.pair) (old_none each.query change.0) loss.1))
        (λ gain. none_in each.pair (subst (λ (pairs : List Pair). Contains pairs each.pair) (new_none each.query change.0) gain.1))
        change.1)),
  );
}

changes_from : SameIsEqual → (queries : List Query) (number : ℕ) (before after : List Entry) (old new : Family) (events : List Event) →
    AreAnswersUnder number queries before old → AreAnswersUnder number queries after new →
    AreEventsUnder number queries before after events → AreChangesFrom number old new events
changes_from same [] number before after old new events old_are new_are are =
    subst (AreChangesFrom number old new) (sym are) (no_change number old new old_are new_are)
changes_from same (query ∷ queries) number before after old new events old_are new_are are =
    subst (AreChangesFrom number old new) (sym are.4)
    (both_changes number old new are.0 are.1
    (own_changes same (path_query query) number before after old new are.0 old_are.0 new_are.0 are.2)
    (changes_from same queries (number + 1) before after old new are.1 old_are.1 new_are.1 are.3))

pub difference_from_events : SameIsEqual → (queries : List Query) (before after : List Entry) (old new : Family) (events : List Event) →
    AreAnswersUnder 0 queries before old → AreAnswersUnder 0 queries after new → AreEventsUnder 0 queries before after events →
    AreDifference old new events
difference_from_events same queries before after old new events old_are new_are are =
    let changed = changes_from same queries 0 before after old new events old_are new_are are in
    record {
      sorted = changed.sorted;
      exact = λ each. (
        (λ member. ((changed.exact each).0 member).1),
        (λ change. (changed.exact each).1 (omega arith, change)),
      );
    }

-- ---- and the changes are the events

-- the events between two families
events_of : (queries : List Query) (number : ℕ) (before after : List Entry) (old new : Family) →
    AreAnswersUnder number queries before old → AreAnswersUnder number queries after new →
    (events : List Event) × AreEventsUnder number queries before after events
events_of [] number before after old new old_are new_are = ([], refl)
events_of (query ∷ queries) number before after old new old_are new_are =
    let rest = events_of queries (number + 1) before after old new old_are.1 new_are.1 in
    let own = changes number (old number) (new number) in (
      own ++ rest.0,
      (own, rest.0, (old number, new number, old_are.0, new_are.0, refl), rest.1, refl),
    )

-- a family has one difference to another
one_difference : (old new : Family) (events others : List Event) → AreDifference old new events → AreDifference old new others → events ≡ others
one_difference old new events others are others_are =
    same_from_members event_cmp_total event_cmp_exact events others are.sorted others_are.sorted
    (λ each. (
      (λ member. (others_are.exact each).1 ((are.exact each).0 member)),
      (λ member. (are.exact each).1 ((others_are.exact each).0 member)),
    ))

pub events_from_difference : SameIsEqual → (queries : List Query) (before after : List Entry) (old new : Family) (events : List Event) →
    AreAnswersUnder 0 queries before old → AreAnswersUnder 0 queries after new → AreDifference old new events →
    AreEventsUnder 0 queries before after events
events_from_difference same queries before after old new events old_are new_are difference =
    let made = events_of queries 0 before after old new old_are new_are in
    subst (AreEventsUnder 0 queries before after)
    (one_difference old new made.0 events (difference_from_events same queries before after old new made.0 old_are new_are made.1) difference)
    made.1

pub events_are_differences : SameIsEqual → EventsAreDifferences
events_are_differences same queries before after events = (
  (λ are.
      let families = families_of queries 0 before after events are in (
        families.old,
        families.new,
        families.old_are,
        families.new_are,
        difference_from_events same queries before after families.old families.new events families.old_are families.new_are are,
      )),
  (λ found. events_from_difference same queries before after found.0 found.1 events found.2 found.3 found.4),
)
