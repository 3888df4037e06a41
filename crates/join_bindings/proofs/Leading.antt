-- The events of queries lead from the answers before to those after.
use Rattle.std.proofs.Common.{◌≡◌, ℕ, zero, suc, ◌+◌, ◌<◌, ◌≤◌, Bool, true, false, List, [], ◌∷◌, length, get_or, Option, Some, None, refl, sym, ap, subst, ◌∙◌, ◌⊎◌, inl, inr, ⊎_elim, arith}
use Rattle.std.specs.Prelude.{◌↔◌, Contains, slice_get}
use Rattle.std.proofs.lemmas.Bool.{false≢true, cases_lt}
use Rattle.std.specs.Cmp.{IsTotalOrder, bool_cmp_total}
use Rattle.std.proofs.lemmas.Cmp.{then_total, on_total, nat_cmp_total, tied_itself}
use Rattle.rpq_base.proofs.Orders.{pair_cmp_total}
use Rattle.std.proofs.lemmas.List.{get_or_default}
use Rattle.std.proofs.lemmas.List.Elements.{All-weaker, All-contains_itself}
use Rattle.std.proofs.lemmas.Map.Keys.{Less-from_sorted}
use Rattle.rpq_base.specs.declared.data.Entry.{Entry}
use Rattle.rpq_base.specs.declared.data.Pair.{Pair}
use Rattle.rpq_base.specs.declared.data.Event.{Event}
use Rattle.rpq_base.proofs.Members.{none_in}
use Rattle.rpq_model.specs.Answers.{AreAnswers}
use Rattle.rpq_model.specs.EventLaws.{IsChange}
use Rattle.rpq_model.specs.Query.{Query, path_query}
use Rattle.two_way.specs.Differences.{AreDifference, AreAnswersUnder, event_cmp}
use Rattle.two_way.specs.Laws.{EventsAreDifferences}
use Rattle.join_bindings.specs.declared.event.JoinEvent.{JoinEvent}
use Rattle.join_file.specs.Joins.{JoinValue}
use Rattle.join_bindings.specs.Bindings.{Family, IsBinding}
use Rattle.join_bindings.specs.Events.{IsJoinChange, AreJoinEvents}
use Rattle.join_bindings.specs.State.{family, AreApart, MayCome, IsNamed, ArePut}
use Rattle.join_bindings.specs.Leading.{HoldAnswers, EventsLeadOn}
use Rattle.join_bindings.proofs.Losing.{there_or_not}

-- ---- families of answers

answers_at : (queries : List Query) (number place : ℕ) (history : List Entry) (pairs : Family) (query : Query) →
    AreAnswersUnder number queries history pairs → slice_get queries place ≡ Some query →
    AreAnswers (path_query query) history (pairs (number + place))
answers_at [] number place history pairs query are there = absurd cc
answers_at (first ∷ queries) number zero history pairs query are there =
    let same : first ≡ query = cc in
    let here : number ≡ number + 0 = omega arith in
    subst (λ (each : Query). AreAnswers (path_query each) history (pairs (number + 0))) same
    (subst (λ (at : ℕ). AreAnswers (path_query first) history (pairs at)) here are.0)
answers_at (first ∷ queries) number (suc place) history pairs query are there =
    let here : (number + 1) + place ≡ number + suc place = omega arith in
    subst (λ (at : ℕ). AreAnswers (path_query query) history (pairs at)) here (answers_at queries (number + 1) place history pairs query are.1 there)

answers_of : (queries : List Query) (place : ℕ) (history : List Entry) (pairs : Family) (query : Query) →
    AreAnswersUnder 0 queries history pairs → slice_get queries place ≡ Some query → AreAnswers (path_query query) history (pairs place)
answers_of queries place history pairs query are there =
    let here : 0 + place ≡ place = omega arith in
    subst (λ (at : ℕ). AreAnswers (path_query query) history (pairs at)) here (answers_at queries 0 place history pairs query are there)

none_behind : (queries : List Query) (number each : ℕ) (history : List Entry) (pairs : Family) →
    AreAnswersUnder number queries history pairs → number + length queries ≤ each → pairs each ≡ []
none_behind [] number each history pairs are above = are each (omega (arith, above))
none_behind (query ∷ queries) number each history pairs are above =
    none_behind queries (number + 1) each history pairs are.1 (omega (arith, above))

-- two families have the same pairs
abbrev AreAlike : Family → Family → Type 0
AreAlike first second = (query : ℕ) (pair : Pair) → Contains (first query) pair ↔ Contains (second query) pair

past : {X : Type 0} (elements : List X) (place : ℕ) → slice_get elements place ≡ None → length elements ≤ place
past [] place none = omega arith
past (first ∷ rest) zero none = absurd cc
past (first ∷ rest) (suc place) none = omega (arith, past rest place none)

bare_past : (sets : List (List Pair)) (place : ℕ) → length sets ≤ place → family sets place ≡ []
bare_past [] place above = refl
bare_past (first ∷ rest) zero above = absurd (omega (arith, above))
bare_past (first ∷ rest) (suc place) above = bare_past rest place (omega (arith, above))

-- the pairs that are answers are those of any family of answers
alike : (queries : List Query) (history : List Entry) (sets : List (List Pair)) (pairs : Family) →
    HoldAnswers queries history sets → AreAnswersUnder 0 queries history pairs → AreAlike (family sets) pairs
alike queries history sets pairs hold are query pair = by_query (slice_get queries query) refl
  where
    by_query : (found : Option Query) → slice_get queries query ≡ found → Contains (family sets query) pair ↔ Contains (pairs query) pair
    by_query (Some def) there =
        let own = answers_of queries query history pairs def are there in
        let held = hold.exact query def there pair in (
          (λ member. (own.exact pair).1 (held.0 member)),
          (λ member. held.1 ((own.exact pair).0 member)),
        )
    by_query None there =
        let above = past queries query there in
        let none = none_behind queries 0 query history pairs are (omega (arith, above)) in
        let bare = bare_past sets query (omega (arith, above, hold.as_many)) in (
          (λ member. absurd (none_in pair (subst (λ (each : List Pair). Contains each pair) bare member))),
          (λ member. absurd (none_in pair (subst (λ (each : List Pair). Contains each pair) none member))),
        )

-- ---- the events may come

-- the pair of a change is before it or behind it
number_within : (queries : List Query) (before after : List Entry) (old new : Family) (event : Event) →
    AreAnswersUnder 0 queries before old → AreAnswersUnder 0 queries after new →
    IsChange (Contains (old event.query)) (Contains (new event.query)) event → event.query < length queries
number_within queries before after old new event old_are new_are change = ⊎_elim
    (λ below. below)
    (λ above. absurd (⊎_elim
    (λ lost. none_in event.pair (subst (λ (each : List Pair). Contains each event.pair)
    (none_behind queries 0 event.query before old old_are (omega (arith, above))) lost.1))
    (λ gained. none_in event.pair (subst (λ (each : List Pair). Contains each event.pair)
    (none_behind queries 0 event.query after new new_are (omega (arith, above))) gained.1))
    change))
    (cases_lt event.query (length queries))

-- the event of this query, kind and pair
abbrev event_of : ℕ → Bool → Pair → Event
event_of query added pair = record { query = query; added = added; pair = pair }

-- two changes of one query and one pair are one event
one_event : (old new : Family) (first second : Event) → first.query ≡ second.query → first.pair ≡ second.pair →
    IsChange (Contains (old first.query)) (Contains (new first.query)) first →
    IsChange (Contains (old second.query)) (Contains (new second.query)) second → first ≡ second
one_event old new first second query pair one two =
    let before = λ (member : Contains (old first.query) first.pair). subst (λ (each : Pair). Contains (old second.query) each) pair
    (subst (λ (each : ℕ). Contains (old each) first.pair) query member) in
    let after = λ (member : Contains (new first.query) first.pair). subst (λ (each : Pair). Contains (new second.query) each) pair
    (subst (λ (each : ℕ). Contains (new each) first.pair) query member) in
    let same : first.added ≡ second.added → first ≡ second = λ added. λ i. event_of (query i) (added i) (pair i) in
    ⊎_elim
    (λ lost. ⊎_elim (λ other. same (lost.0 ∙ sym other.0)) (λ other. absurd (other.2 (before lost.1))) two)
    (λ gained. ⊎_elim (λ other. absurd (other.2 (after gained.1))) (λ other. same (gained.0 ∙ sym other.0)) two)
    one

event_cmp_total : IsTotalOrder event_cmp
event_cmp_total =
    then_total
    (then_total (on_total (λ (each : Event). each.query) nat_cmp_total) (on_total (λ (each : Event). each.added) bool_cmp_total))
    (on_total (λ (each : Event). each.pair) pair_cmp_total)

apart : (old new : Family) (events : List Event) → AreDifference old new events → AreApart events
apart old new events difference i j d before within query pair =
    let first = get_or events i d in
    let second = get_or events j d in
    let less = Less-from_sorted event_cmp events i j d difference.sorted before within in
    let one = (difference.exact first).0 (i, omega (arith, before, within), get_or_default events i first d (omega (arith, before, within))) in
    let two = (difference.exact second).0 (j, within, get_or_default events j second d within) in
    let same = one_event old new first second query pair one two in
    let tied = ap (λ (each : Event). event_cmp each second) same ∙ tied_itself event_cmp_total second in
    absurd (let both = sym less ∙ tied in cc)

may_come : (queries : List Query) (before after : List Entry) (sets : List (List Pair)) (events : List Event) (old new : Family) →
    HoldAnswers queries before sets → AreAnswersUnder 0 queries before old → AreAnswersUnder 0 queries after new →
    AreDifference old new events → MayCome sets events
may_come queries before after sets events old new hold old_are new_are difference = record {
  within = All-weaker (Contains events) (λ (event : Event). event.query < length sets)
      (λ event member.
      let below = number_within queries before after old new event old_are new_are ((difference.exact event).0 member) in
      omega (arith, below, hold.as_many))
      events (All-contains_itself events);
  apart = apart old new events difference;
  suits = λ event member.
      let same = alike queries before sets old hold old_are event.query event.pair in
      ⊎_elim
      (λ lost. ((λ is. same.1 lost.1), (λ held. lost.0)))
      (λ gained. (
        (λ is. absurd (false≢true (sym is ∙ gained.0))),
        (λ held. absurd (gained.2 (same.0 held))),
      ))
      ((difference.exact event).0 member);
}

-- ---- what they lead to

put_alike : (sets after : List (List Pair)) (events : List Event) (old new : Family) → AreAlike (family sets) old → AreDifference old new events →
    ArePut sets after events → AreAlike (family after) new
put_alike sets after events old new same difference put query pair = ⊎_elim
    (λ was. ⊎_elim
    (λ is. stays (λ named.
    ⊎_elim (λ lost. lost.1 is) (λ gained. gained.1 was) (at_pair named))
    (λ still. is) (λ still. (same query pair).1 was))
    (λ gone. (
      (λ member. absurd (false≢true ((put.told (event_of query false pair) ((difference.exact (event_of query false pair)).1 (inl (refl, was, gone)))).1 member))),
      (λ member. absurd (gone member)),
    ))
    (there_or_not (new query) pair))
    (λ lacked. ⊎_elim
    (λ is. (
      (λ member. is),
      (λ member. (put.told (event_of query true pair) ((difference.exact (event_of query true pair)).1 (inr (refl, is, lacked)))).0 refl),
    ))
    (λ gone. stays (λ named.
    ⊎_elim (λ lost. lacked lost.0) (λ gained. gone gained.0) (at_pair named))
    (λ held. absurd (lacked ((same query pair).0 held))) (λ is. absurd (gone is)))
    (there_or_not (new query) pair))
    (there_or_not (old query) pair)
  where
    -- where an event tells the pair, it is lost or gained
    at_pair : IsNamed events query pair →
        (Contains (old query) pair × (Contains (new query) pair → ⊥)) ⊎ (Contains (new query) pair × (Contains (old query) pair → ⊥))
    at_pair named =
        let event = named.0 in
        let there = λ (P : Family) (member : Contains (P event.query) event.pair). subst (λ (each : Pair). Contains (P query) each) named.3
        (subst (λ (number : ℕ). Contains (P number) event.pair) named.2 member) in
        let back = λ (P : Family) (member : Contains (P query) pair). subst (λ (each : Pair). Contains (P event.query) each) (sym named.3)
        (subst (λ (number : ℕ). Contains (P number) pair) (sym named.2) member) in
        ⊎_elim
        (λ lost. inl (there old lost.1, λ member. lost.2 (back new member)))
        (λ gained. inr (there new gained.1, λ member. gained.2 (back old member)))
        ((difference.exact event).0 named.1)

    stays : (IsNamed events query pair → ⊥) → (Contains (family sets query) pair → Contains (new query) pair) →
        (Contains (new query) pair → Contains (family sets query) pair) → Contains (family after query) pair ↔ Contains (new query) pair
    stays unnamed there back = (
      (λ member. there ((put.others query pair unnamed).0 member)),
      (λ member. (put.others query pair unnamed).1 (back member)),
    )

-- bindings over families with the same pairs
binding_alike : (join : JoinValue) (first second : Family) (names : List (List ℕ)) → AreAlike first second →
    IsBinding join first names → IsBinding join second names
binding_alike join first second names same binding = record {
  as_many = binding.as_many;
  met = λ atom member.
      let met = binding.met atom member in
      (met.0, met.1, (same atom.query met.0).0 met.2);
}

turned : (first second : Family) → AreAlike first second → AreAlike second first
turned first second same query pair = ((same query pair).1, (same query pair).0)

change_alike : (join : JoinValue) (before old after new : Family) (each : JoinEvent) → AreAlike before old → AreAlike after new →
    IsJoinChange join before after each → IsJoinChange join old new each
change_alike join before old after new each old_same new_same change = ⊎_elim
    (λ lost. inl (
      lost.0,
      record {
        was = binding_alike join before old each.binding old_same lost.1.was;
        gone = λ binding. lost.1.gone (binding_alike join new after each.binding (turned after new new_same) binding);
      },
    ))
    (λ gained. inr (
      gained.0,
      record {
        was = binding_alike join after new each.binding new_same gained.1.was;
        gone = λ binding. gained.1.gone (binding_alike join old before each.binding (turned before old old_same) binding);
      },
    ))
    change

events_alike : (joins : List JoinValue) (before old after new : Family) (found : List JoinEvent) → AreAlike before old → AreAlike after new →
    AreJoinEvents joins before after found → AreJoinEvents joins old new found
events_alike joins before old after new found old_same new_same events = record {
  sorted = events.sorted;
  exact = λ each. (
    (λ member.
        let told = (events.exact each).0 member in
        (told.0, told.1, change_alike told.0 before old after new each old_same new_same told.2)),
    (λ told. (events.exact each).1
        (told.0, told.1, change_alike told.0 old before new after each (turned before old old_same) (turned after new new_same) told.2)),
  );
}

pub events_lead_on : EventsAreDifferences → EventsLeadOn
events_lead_on differences queries before after sets events hold are =
    let found = (differences queries before after events).0 are in
    let old = found.0 in
    let new = found.1 in
    let old_same = alike queries before sets old hold found.2 in
    record {
      come = may_come queries before after sets events old new hold found.2 found.3 found.4;
      hold = λ put as_many is_put.
          let same = put_alike sets put events old new old_same found.4 is_put in
          record {
            as_many = as_many ∙ hold.as_many;
            exact = λ number query there pair.
                let own = answers_of queries number after new query found.3 there in (
                  (λ member. (own.exact pair).0 ((same number pair).0 member)),
                  (λ answer. (same number pair).1 ((own.exact pair).1 answer)),
                );
          };
      changes = λ put as_many is_put joins told join_events. record {
        old = old;
        new = new;
        were = λ number query there. answers_of queries number before old query found.2 there;
        are = λ number query there. answers_of queries number after new query found.3 there;
        changes = events_alike joins (family sets) old (family put) new told old_same
            (put_alike sets put events old new old_same found.4 is_put) join_events;
      };
    }
