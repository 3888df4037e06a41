-- The order of events of joins, and the test for equal ones.
use Rattle.std.proofs.Common.{◌≡◌, Bool, ◌==◌, ◌&&◌, refl}
use Rattle.std.proofs.Math.Bool.{beq}
use Rattle.std.specs.Prelude.{◌↔◌, IsTrue}
use Rattle.std.specs.Cmp.{IsTotalOrder, bool_cmp_total, booleans_Decides}
use Rattle.std.specs.Ordering.{nat_cmp, bool_cmp, ordering_then}
use Rattle.std.proofs.lemmas.Bool.{and_parts, eqb-true, eq-eqb}
use Rattle.std.proofs.lemmas.Cmp.{then_total, on_total, nat_cmp_total, nat_list_cmp_total, lists_total}
use Rattle.std.proofs.lemmas.Map.Lookups.{CmpEqualImpliesEq, exact_unsigned, exact_bytes}
use Rattle.std.proofs.lemmas.Slice.Eq.{slice_eq-Decides}
use Rattle.rpq_base.proofs.Equality.{names as name_test}
use Rattle.rpq_base.proofs.Orders.{both_equal, same_direction, lists_exact}
use Rattle.join_bindings.specs.declared.event.JoinEvent.{JoinEvent}
use Rattle.join_bindings.specs.Bindings.{binding_cmp}
use Rattle.join_bindings.specs.Events.{join_event_cmp, same_names}

pub join_event_cmp_total : IsTotalOrder join_event_cmp
join_event_cmp_total =
    then_total
    (then_total (on_total (λ (event : JoinEvent). event.join) nat_cmp_total) (on_total (λ (event : JoinEvent). event.added) bool_cmp_total))
    (on_total (λ (event : JoinEvent). event.binding) (lists_total nat_list_cmp_total))

bindings_exact : CmpEqualImpliesEq binding_cmp
bindings_exact = lists_exact exact_bytes

pub join_event_cmp_exact : CmpEqualImpliesEq join_event_cmp
join_event_cmp_exact first second e =
    let outer = both_equal (ordering_then (nat_cmp first.join second.join) (bool_cmp first.added second.added)) (binding_cmp first.binding second.binding) e in
    let inner = both_equal (nat_cmp first.join second.join) (bool_cmp first.added second.added) outer.0 in
    let join = exact_unsigned first.join second.join inner.0 in
    let added = same_direction first.added second.added inner.1 in
    let binding = bindings_exact first.binding second.binding outer.1 in
    λ i. record { join = join i; added = added i; binding = binding i }

-- the derived test of events
abbrev pub derived_event : JoinEvent → JoinEvent → Bool
derived_event first second = first.join == second.join && (beq first.added second.added && same_names first.binding second.binding)

pub same_events : (first second : JoinEvent) → IsTrue (derived_event first second) ↔ (first ≡ second)
same_events first second = (
  (λ e.
      let outer = and_parts (first.join == second.join) (beq first.added second.added && same_names first.binding second.binding) e in
      let inner = and_parts (beq first.added second.added) (same_names first.binding second.binding) outer.1 in
      let join = eqb-true first.join second.join outer.0 in
      let added = (booleans_Decides first.added second.added).0 inner.0 in
      let binding = (slice_eq-Decides name_test first.binding second.binding (same_names first.binding second.binding) refl).0 inner.1 in
      λ i. record { join = join i; added = added i; binding = binding i }),
  (λ e. rw e (rw (
    eq-eqb second.join second.join refl,
    (booleans_Decides second.added second.added).1 refl,
    (slice_eq-Decides name_test second.binding second.binding (same_names second.binding second.binding) refl).1 refl,
  ) refl)),
)
