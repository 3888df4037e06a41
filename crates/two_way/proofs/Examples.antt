-- The net of two given lists of events, by tests.
use Rattle.std.proofs.Common.{◌≡◌, Bool, true, not, ◌&&◌, ◌||◌, List, [], ◌∷◌, refl, sym, ap, ◌∙◌, inl, inr, ⊎_elim}
use Rattle.std.specs.Prelude.{◌↔◌, Contains}
use Rattle.std.specs.Cmp.{decided}
use Rattle.std.specs.List.{list_any, list_all}
use Rattle.std.specs.List.Sorted.{IsStrictlySortedBy}
use Rattle.std.proofs.lemmas.Bool.{and_parts, and_from, or_cases, both_ways, not-true, false_from_ne_true}
use Rattle.std.proofs.lemmas.Map.Views.{Contains-from_any, list_any-from_Contains}
use Rattle.rpq_base.specs.declared.data.Event.{Event}
use Rattle.rpq_base.proofs.Derived.{events as event_test}
use Rattle.rpq_base.proofs.Members.{cons_members, none_in}
use Rattle.two_way.specs.Differences.{event_cmp}
use Rattle.two_way.specs.Examples.{TwoWayExamples}
use Rattle.two_way.specs.Net.{opposite, Stays, AreNet}
use Rattle.two_way.proofs.EventOrder.{same_event}

-- whether an event is among others
abbrev has : List Event → Event → Bool
has events each = list_any (same_event each) events

has_iff : (events : List Event) (each : Event) → (has events each ≡ true) ↔ Contains events each
has_iff events each = (
  Contains-from_any {eq = same_event} (λ first second. (event_test first second).0) each events,
  list_any-from_Contains (decided same_event event_test) each events,
)

-- what passes a test for all of a list
passes : (events : List Event) (test : Event → Bool) (each : Event) → list_all test events ≡ true → Contains events each → test each ≡ true
passes [] test each all member = absurd (none_in each member)
passes (first ∷ rest) test each all member =
    let both = and_parts (test first) (list_all test rest) all in
    ⊎_elim (λ here. ap test (sym here) ∙ both.0) (λ later. passes rest test each both.1 later) ((cons_members first rest each).0 member)

-- whether an event of the first list stays
abbrev stays : List Event → List Event → Event → Bool
stays events others each = has events each && not (has others (opposite each))

stays_is : (events others : List Event) (each : Event) → (stays events others each ≡ true) ↔ Stays events others each
stays_is events others each = (
  (λ e.
      let both = and_parts (has events each) (not (has others (opposite each))) e in (
        (has_iff events each).0 both.0,
        λ undone. both_ways (has others (opposite each)) (not-true (has others (opposite each)) both.1) ((has_iff others (opposite each)).1 undone),
      )),
  (λ both. and_from (has events each) (not (has others (opposite each))) ((has_iff events each).1 both.0)
      (ap not (false_from_ne_true (has others (opposite each)) (λ e. both.1 ((has_iff others (opposite each)).0 e))))),
)

-- whether the events of a list that stay are among others
abbrev keeps : List Event → List Event → List Event → Bool
keeps events own others = list_all (λ each. not (stays own others each) || has events each) own

kept : (events own others : List Event) (each : Event) → keeps events own others ≡ true → Stays own others each → Contains events each
kept events own others each all both = ⊎_elim
    (λ goes. absurd (both_ways (stays own others each) (not-true (stays own others each) goes) ((stays_is own others each).1 both)))
    (λ e. (has_iff events each).0 e)
    (or_cases (not (stays own others each)) (has events each) (passes own (λ each. not (stays own others each) || has events each) each all both.0))

net_by_tests : (first second events : List Event) → IsStrictlySortedBy event_cmp events →
    list_all (λ each. stays first second each || stays second first each) events ≡ true →
    keeps events first second ≡ true → keeps events second first ≡ true → AreNet first second events
net_by_tests first second events sorted stay first_kept second_kept = record {
  sorted = sorted;
  exact = λ each. (
    (λ member. ⊎_elim
        (λ e. inl ((stays_is first second each).0 e))
        (λ e. inr ((stays_is second first each).0 e))
        (or_cases (stays first second each) (stays second first each) (passes events (λ each. stays first second each || stays second first each) each stay member))),
    (λ either. ⊎_elim (kept events first second each first_kept) (kept events second first each second_kept) either),
  );
}

pub examples : TwoWayExamples
unfolding IsStrictlySortedBy
examples = record {
  of_history = refl;
  of_events = net_by_tests _ _ _ ((refl, tt), (tt, tt)) refl refl refl;
}
