-- What is found over the pairs before and after is what joins lose and gain.
use Rattle.std.proofs.Common.{◌≡◌, ℕ, Bool, true, false, ◌==◌, ◌&&◌, List, map, filter, refl, sym}
use Rattle.std.proofs.Common.{ap, ap₂, subst, ◌∙◌, ◌⊎◌, inl, inr, ⊎_elim}
use Rattle.std.proofs.Math.Bool.{beq}
use Rattle.std.specs.Prelude.{◌↔◌, Contains}
use Rattle.std.specs.Cmp.{booleans_Decides}
use Rattle.std.specs.List.Sorted.{IsStrictlySortedBy}
use Rattle.std.proofs.lemmas.Bool.{false≢true, and_parts, eqb-true, eq-eqb}
use Rattle.rpq_base.proofs.Members.{kept_members}
use Rattle.rpq_base.specs.declared.data.Pair.{Pair}
use Rattle.rpq_base.specs.declared.data.Event.{Event}
use Rattle.join_bindings.specs.declared.event.JoinEvent.{JoinEvent}
use Rattle.join_file.specs.Joins.{JoinValue}
use Rattle.join_bindings.specs.Bindings.{Family}
use Rattle.join_bindings.specs.Events.{IsLost, AreJoinEvents, join_event_cmp}
use Rattle.join_bindings.specs.Laws.{AreMissing}
use Rattle.join_bindings.specs.Touched.{IsThroughKind, AreTold}
use Rattle.join_bindings.specs.Changed.{IsFound}
use Rattle.join_bindings.specs.State.{family, ArePut, MayCome}
use Rattle.join_file.proofs.Mapping.{mapped}
use Rattle.join_bindings.proofs.Losing.{there_or_not, changes_are_touched}
use Rattle.join_bindings.proofs.Telling.{through_is_touched}

-- ---- the pairs that events of one kind tell

abbrev is_of : Bool → ℕ → Event → Bool
is_of added query event = beq event.added added && (event.query == query)

abbrev told : Bool → List Event → Family
told added events query = map (λ (event : Event). event.pair) (filter (is_of added query) events)

are_told : (added : Bool) (events : List Event) → AreTold added events (told added events)
are_told added events query pair =
    let kept = λ (event : Event). kept_members events (is_of added query) event in
    let given = mapped (λ (event : Event). event.pair) (filter (is_of added query) events) pair in (
      (λ member.
          let from = given.0 member in
          let both = (kept from.0).0 from.1 in
          let parts = and_parts (beq from.0.added added) (from.0.query == query) both.1 in
          (from.0, both.0, (booleans_Decides from.0.added added).0 parts.0, eqb-true from.0.query query parts.1, from.2)),
      (λ tells.
          given.1 (
            tells.0,
            (kept tells.0).1 (
              tells.1,
              ap₂ (λ (first second : Bool). first && second)
                  (ap (λ (kind : Bool). beq kind added) tells.2 ∙ (booleans_Decides added added).1 refl)
                  (eq-eqb tells.0.query query tells.3),
            ),
            tells.4,
          )),
    )

-- an event is of one kind or the other
kind_cases : (kind : Bool) → (kind ≡ true) ⊎ (kind ≡ false)
kind_cases true = inl refl
kind_cases false = inr refl

-- ---- what is missing after, and what was before

retracted : (old new : List (List Pair)) (events : List Event) → MayCome old events → ArePut old new events →
    AreMissing (family old) (family new) (told false events)
retracted old new events may put query pair =
    let tells = are_told false events query pair in (
      (λ member.
          let (event, among, kind, query_is, pair_is) = tells.0 member in (
            subst (Contains (family old query)) pair_is
                (subst (λ (number : ℕ). Contains (family old number) event.pair) query_is ((may.suits event among).0 kind)),
            λ held.
                false≢true (sym kind ∙ (put.told event among).1
                (subst (λ (number : ℕ). Contains (family new number) event.pair) (sym query_is)
                (subst (Contains (family new query)) (sym pair_is) held))),
          )),
      (λ both. ⊎_elim
          (λ there. there)
          (λ none. absurd (both.1 (held_still both.0 both.1 none)))
          (there_or_not (told false events query) pair)),
    )
  where
    held_still : Contains (family old query) pair → (Contains (family new query) pair → ⊥) → (Contains (told false events query) pair → ⊥) → Contains (family new query) pair
    held_still was gone none = (put.others query pair (λ named.
        let (event, among, query_is, pair_is) = named in
        ⊎_elim
        (λ added. gone
        (subst (Contains (family new query)) pair_is
        (subst (λ (number : ℕ). Contains (family new number) event.pair) query_is ((put.told event among).0 added))))
        (λ lost. none ((are_told false events query pair).1 (event, among, lost, query_is, pair_is)))
        (kind_cases event.added))).1 was

added_pairs : (old new : List (List Pair)) (events : List Event) → MayCome old events → ArePut old new events →
    AreMissing (family new) (family old) (told true events)
added_pairs old new events may put query pair =
    let tells = are_told true events query pair in (
      (λ member.
          let (event, among, kind, query_is, pair_is) = tells.0 member in (
            subst (Contains (family new query)) pair_is
                (subst (λ (number : ℕ). Contains (family new number) event.pair) query_is ((put.told event among).0 kind)),
            λ held.
                false≢true (sym ((may.suits event among).1
                (subst (λ (number : ℕ). Contains (family old number) event.pair) (sym query_is)
                (subst (Contains (family old query)) (sym pair_is) held))) ∙ kind),
          )),
      (λ both. ⊎_elim
          (λ there. there)
          (λ none. absurd (both.1 (held_before both.0 none)))
          (there_or_not (told true events query) pair)),
    )
  where
    held_before : Contains (family new query) pair → (Contains (told true events query) pair → ⊥) → Contains (family old query) pair
    held_before now none = (put.others query pair (λ named.
        let (event, among, query_is, pair_is) = named in
        none ((are_told true events query pair).1 (
          event,
          among,
          (put.told event among).1
              (subst (λ (number : ℕ). Contains (family new number) event.pair) (sym query_is)
              (subst (Contains (family new query)) (sym pair_is) now)),
          query_is,
          pair_is,
        )))).0 now

-- ---- the events of the joins

pub found_are_events : (joins : List JoinValue) (old new : List (List Pair)) (events : List Event) (found : List JoinEvent) → MayCome old events →
    ArePut old new events → IsStrictlySortedBy join_event_cmp found →
    ((each : JoinEvent) → Contains found each ↔ (IsFound old joins false events each ⊎ IsFound new joins true events each)) →
    AreJoinEvents joins (family old) (family new) found
found_are_events joins old new events found may put sorted members = record {
  sorted = sorted;
  exact = λ each. (
    (λ member. ⊎_elim
        (λ lost. (lost.0, lost.1, inl (lost.2, (losses lost.0 each).1 lost.3)))
        (λ gained. (gained.0, gained.1, inr (gained.2, (gains gained.0 each).1 gained.3)))
        ((members each).0 member)),
    (λ change. (members each).1 (⊎_elim
        (λ lost. inl (change.0, change.1, lost.0, (losses change.0 each).0 lost.1))
        (λ gained. inr (change.0, change.1, gained.0, (gains change.0 each).0 gained.1))
        change.2)),
  );
}
  where
    losses : (join : JoinValue) (each : JoinEvent) → IsLost join (family old) (family new) each.binding ↔ IsThroughKind old join false events each.binding
    losses join each =
        let found_is = through_is_touched old join false events (told false events) (are_told false events) each.binding in
        let lost_is = changes_are_touched join (family old) (family new) (told false events) (retracted old new events may put) each.binding in
        ((λ lost. found_is.1 (lost_is.0 lost)), (λ through. lost_is.1 (found_is.0 through)))

    gains : (join : JoinValue) (each : JoinEvent) → IsLost join (family new) (family old) each.binding ↔ IsThroughKind new join true events each.binding
    gains join each =
        let found_is = through_is_touched new join true events (told true events) (are_told true events) each.binding in
        let gained_is = changes_are_touched join (family new) (family old) (told true events) (added_pairs old new events may put) each.binding in
        ((λ gained. found_is.1 (gained_is.0 gained)), (λ through. gained_is.1 (found_is.0 through)))
