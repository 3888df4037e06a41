-- The events of joins over accepted queries exist, and are one list.
use Rattle.std.proofs.Common.{◌≡◌, ℕ, zero, suc, Bool, true, false, List, [], ◌∷◌, ◌++◌, map}
use Rattle.std.proofs.Common.{length, Some, refl, sym, ap, subst, inl, inr, ⊎_elim}
use Rattle.std.specs.Prelude.{Contains, All, slice_get}
use Rattle.std.proofs.lemmas.List.Elements.{All-head, All-tail, All-contains}
use Rattle.std.proofs.lemmas.List.Elements.{Contains-append_left, Contains-append_right}
use Rattle.std.proofs.lemmas.Option.{none-some, same_Some, slice_get_within}
use Rattle.std.proofs.lemmas.Option.{get_or_from_slice_get}
use Rattle.rpq_base.specs.declared.data.Entry.{Entry}
use Rattle.rpq_base.specs.declared.data.Pair.{Pair}
use Rattle.rpq_base.proofs.Members.{with_all, distinct_members, none_in}
use Rattle.rpq_base.proofs.Sorted.{sorted_nil, fold_sorted, same_from_members}
use Rattle.rpq_model.specs.Answers.{AreAnswers}
use Rattle.rpq_model.specs.Query.{Query, path_query}
use Rattle.containment_laws.specs.Accepted.{IsAccepted, AcceptedHaveAnswers}
use Rattle.join_bindings.specs.declared.event.JoinEvent.{JoinEvent}
use Rattle.join_file.specs.Joins.{JoinValue}
use Rattle.join_bindings.specs.Bindings.{Family, IsBinding}
use Rattle.join_bindings.specs.Events.{IsLost, IsJoinChange, AreJoinEvents, join_event_cmp}
use Rattle.join_file.specs.Sound.{IsSound}
use Rattle.join_bindings.specs.Histories.{AreAnswersOf, AreJoinEventsFrom}
use Rattle.join_bindings.specs.HaveJoinEvents.{HaveJoinEvents}
use Rattle.join_bindings.proofs.Candidates.{candidates, binding_among}
use Rattle.join_bindings.proofs.Deciding.{IsTold, told_decided, chosen}
use Rattle.join_file.proofs.Mapping.{mapped}
use Rattle.join_bindings.proofs.Histories.{bindings_over}
use Rattle.join_bindings.proofs.Ordering.{join_event_cmp_total, join_event_cmp_exact}

-- ---- events among which all changes are

abbrev event_of : ℕ → Bool → List (List ℕ) → JoinEvent
event_of number added names = record { join = number; added = added; binding = names }

-- the same of the join behind
abbrev behind : JoinEvent → JoinEvent
behind each = event_of (suc each.join) each.added each.binding

-- each candidate of each join, as lost and as gained
abbrev cover : List JoinValue → Family → Family → List JoinEvent
cover [] before after = []
cover (join ∷ joins) before after =
    map (event_of 0 false) (candidates join before)
    ++ (map (event_of 0 true) (candidates join after) ++ map behind (cover joins before after))

covered : (joins : List JoinValue) (queries : ℕ) (before after : Family) (number : ℕ) (added : Bool)
    (names : List (List ℕ)) (join : JoinValue) → All (IsSound queries) joins →
    slice_get joins number ≡ Some join →
    IsJoinChange join before after (event_of number added names) →
    Contains (cover joins before after) (event_of number added names)
covered [] queries before after number added names join sound there change =
    absurd (none-some join there)
covered (first ∷ joins) queries before after zero added names join sound there change =
    let same : join ≡ first = sym (same_Some first join there) in
    let own = All-head (IsSound queries) first joins sound in
    let lost = map (event_of 0 false) (candidates first before) in
    let gained = map (event_of 0 true) (candidates first after) in
    let rest = map behind (cover joins before after) in
    let each = event_of 0 added names in
    ⊎_elim
    (λ loss. Contains-append_left lost (gained ++ rest) each
    ((mapped (event_of 0 false) (candidates first before) each).1 (
      names,
      binding_among queries first before names own
          (subst (λ (one : JoinValue). IsBinding one before names) same loss.1.was),
      ap (λ (kind : Bool). event_of 0 kind names) (sym loss.0),
    )))
    (λ gain. Contains-append_right lost (gained ++ rest) each
    (Contains-append_left gained rest each
    ((mapped (event_of 0 true) (candidates first after) each).1 (
      names,
      binding_among queries first after names own
          (subst (λ (one : JoinValue). IsBinding one after names) same gain.1.was),
      ap (λ (kind : Bool). event_of 0 kind names) (sym gain.0),
    ))))
    change
covered (first ∷ joins) queries before after (suc number) added names join sound there change =
    let lost = map (event_of 0 false) (candidates first before) in
    let gained = map (event_of 0 true) (candidates first after) in
    let rest = map behind (cover joins before after) in
    let each = event_of (suc number) added names in
    Contains-append_right lost (gained ++ rest) each
    (Contains-append_right gained rest each
    ((mapped behind (cover joins before after) each).1 (
      event_of number added names,
      covered joins queries before after number added names join
          (All-tail (IsSound queries) first joins sound) there change,
      refl,
    )))

-- ---- some

some_events : (queries : ℕ) (joins : List JoinValue) (before after : Family) →
    All (IsSound queries) joins →
    (events : List JoinEvent) × AreJoinEvents joins before after events
some_events queries joins before after sound =
    let found = chosen (IsTold joins before after) (told_decided joins before after)
    (cover joins before after) in (
      with_all join_event_cmp [] found.0,
      record {
        sorted = fold_sorted join_event_cmp_total found.0 (λ each. true) (λ each. each) []
            (sorted_nil join_event_cmp);
        exact = λ each.
            let distinct = distinct_members join_event_cmp_exact found.0 each in (
              (λ member. ((found.1 each).0 (distinct.0 member)).1),
              (λ told. distinct.1 ((found.1 each).1 (
                covered joins queries before after each.join each.added each.binding told.0 sound
                    told.1 told.2,
                told,
              ))),
            );
      },
    )

-- no joins lose or gain anything
no_changes : (before after : Family) → AreJoinEvents [] before after []
no_changes before after = record {
  sorted = sorted_nil join_event_cmp;
  exact = λ each. (
    (λ member. absurd (none_in each member)),
    (λ told. absurd (none-some told.0 told.1)),
  );
}

-- the pairs of the first query, and those of the queries behind it
abbrev with_first : List Pair → Family → ℕ → List Pair
with_first own rest zero = own
with_first own rest (suc number) = rest number

first_and_rest : (first : Query) (queries : List Query) (history : List Entry) (own : List Pair)
    (rest : Family) → AreAnswers (path_query first) history own →
    AreAnswersOf queries history rest →
    AreAnswersOf (first ∷ queries) history (with_first own rest)
first_and_rest first queries history own rest here later zero query there =
    subst (λ (each : Query). AreAnswers (path_query each) history own)
    (same_Some first query there) here
first_and_rest first queries history own rest here later (suc number) query there =
    later number query there

some_answers : AcceptedHaveAnswers → (queries : List Query) (history : List Entry) →
    All IsAccepted queries → (pairs : Family) × AreAnswersOf queries history pairs
some_answers have [] history all =
    ((λ number. []), λ number query there. absurd (none-some query there))
some_answers have (first ∷ queries) history all =
    let own = have first (All-head IsAccepted first queries all) history in
    let rest = some_answers have queries history (All-tail IsAccepted first queries all) in
    (with_first own.0 rest.0, first_and_rest first queries history own.0 rest.0 own.1 rest.1)

-- ---- and one list of them

-- over the answers, bindings are those over any other family of them
binding_again : (queries : List Query) (history : List Entry) (join : JoinValue)
    (pairs others : Family) (names : List (List ℕ)) → IsSound (length queries) join →
    AreAnswersOf queries history pairs → AreAnswersOf queries history others →
    IsBinding join pairs names → IsBinding join others names
binding_again queries history join pairs others names sound are others_are binding =
    (bindings_over queries history join others names sound others_are).1
    ((bindings_over queries history join pairs names sound are).0 binding)

-- and so is what is lost
lost_again : (queries : List Query) (before after : List Entry) (join : JoinValue)
    (old new other_old other_new : Family) (names : List (List ℕ)) → IsSound (length queries) join →
    AreAnswersOf queries before old → AreAnswersOf queries after new →
    AreAnswersOf queries before other_old → AreAnswersOf queries after other_new →
    IsLost join old new names → IsLost join other_old other_new names
lost_again queries before after join old new other_old other_new names sound were are
    others_were others_are lost = record {
      was = binding_again queries before join old other_old names sound were others_were lost.was;
      gone = λ still. lost.gone
          (binding_again queries after join other_new new names sound others_are are still);
    }

-- a member at its place
member_at : (joins : List JoinValue) (number : ℕ) (join : JoinValue) →
    slice_get joins number ≡ Some join → Contains joins join
member_at joins number join there = (
  number,
  slice_get_within joins number join there,
  get_or_from_slice_get joins number join join there,
)

told_again : (queries : List Query) (joins : List JoinValue) (before after : List Entry)
    (events others : List JoinEvent) (each : JoinEvent) → All (IsSound (length queries)) joins →
    AreJoinEventsFrom queries joins before after events →
    AreJoinEventsFrom queries joins before after others →
    Contains events each → Contains others each
told_again queries joins before after events others each all first second member =
    let told = (first.changes.exact each).0 member in
    let join = told.0 in
    let sound = All-contains (IsSound (length queries)) joins join all
    (member_at joins each.join join told.1) in
    (second.changes.exact each).1 (
      join,
      told.1,
      ⊎_elim
          (λ lost. inl (
            lost.0,
            lost_again queries before after join first.old first.new second.old
                second.new each.binding sound first.were first.are second.were second.are lost.1,
          ))
          (λ gained. inr (
            gained.0,
            lost_again queries after before join first.new first.old second.new
                second.old each.binding sound first.are first.were second.are second.were gained.1,
          ))
          told.2,
    )

pub have_join_events : AcceptedHaveAnswers → HaveJoinEvents
have_join_events have = record {
  some = λ queries joins accepted sound before after.
      let old = some_answers have queries before accepted in
      let new = some_answers have queries after accepted in
      let events = some_events (length queries) joins old.0 new.0 sound in (
        events.0,
        record { old = old.0; new = new.0; were = old.1; are = new.1; changes = events.1 },
      );
  one = λ queries joins sound before after events others first second.
      same_from_members join_event_cmp_total join_event_cmp_exact events others
      first.changes.sorted second.changes.sorted (λ each. (
        told_again queries joins before after events others each sound first second,
        told_again queries joins before after others events each sound second first,
      ));
  none = λ queries accepted before after.
      let old = some_answers have queries before accepted in
      let new = some_answers have queries after accepted in
      let changes = no_changes old.0 new.0 in
      record { old = old.0; new = new.0; were = old.1; are = new.1; changes = changes };
}
