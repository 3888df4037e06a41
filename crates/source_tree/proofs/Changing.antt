-- What a change does to a tree, and its shifts in another order.
use Rattle.std.proofs.Common.{◌≡◌, ◌==◌, ℕ, ◌+◌, ◌≤◌, Bool, true, false, cond, nat_lt, List, get_or, Some, Result, Ok, Err, refl, sym, ap, ◌∙◌, IsPermutation, true≢false, arith}
use Rattle.std.specs.Prelude.{IfOk, OnOk}
use Rattle.std.specs.Ordering.{is_lt, nat_cmp, ordering_then}
use Rattle.std.specs.List.Sorted.{IsSorted}
use Rattle.std.specs.declared.cmp.Ordering.TheVariants.{Less, Equal, Greater}
use Rattle.std.proofs.lemmas.Bool.{ltb-false}
use Rattle.std.proofs.lemmas.List.{get_or-map, length-map}
use Rattle.std.proofs.lemmas.List.Elements.{Contains-get_or}
use Rattle.std.proofs.lemmas.List.Sorted.{All-permutation, Contains-permutation, IsNonDecreasingBy-from_all_adjacent, IsPermutation-map}
use Rattle.std.proofs.lemmas.Map.Keys.{IsDistinct-IsPermutation}
use Rattle.edge_store.specs.declared.edge.EdgeId.{EdgeId}
use Rattle.delta_tree.specs.declared.node.NodeId.{NodeId}
use Rattle.delta_tree.specs.declared.node.Node.{Node}
use Rattle.delta_tree.specs.declared.node.Shift.{Shift}
use Rattle.delta_tree.specs.Dues.{id_cmp}
use Rattle.delta_tree.specs.Nodes.{TreeValue, node_of, same_node}
use Rattle.delta_tree.specs.Changes.{AreBelow, AreDue, AreShifts, Expires, IsSameBeside, IsShift, shift_ids}
use Rattle.delta_tree.proofs.Ids.{same_node_laws, some_is_one}
use Rattle.delta_tree.proofs.Trees.{living_some}
use Rattle.tree_insert.specs.Trees.{Keeps}
use Rattle.tree_insert.proofs.Expiry.{expiry_keeps_optimal}
use Rattle.tree_delete.specs.Removal.{KeepsApart}
use Rattle.source_tree.specs.Product.{ProductValue, IsOptimalOn, steps_of, values_of}
use Rattle.source_tree.specs.Taking.{IsTouched, WasOptimalBefore}
use Rattle.source_tree.specs.Telling.{HasChanged, IsByVertex, Touches}
use Rattle.source_tree.specs.declared.change.Change.{Change}
use Rattle.source_tree.specs.declared.change.Change.TheVariants.{Remove, Expire}

-- ---- a removal

removal : (product : ProductValue) (old new : TreeValue) (edge : EdgeId) (shifts : List Shift) → IsOptimalOn product new → KeepsApart old new edge →
    AreBelow old edge (shift_ids shifts) → AreShifts old new shifts →
    HasChanged (Remove edge) product old new shifts
removal product old new edge shifts optimal keeps below are = record {
  optimal = optimal;
  keeps = keeps;
  touches = record {
    touched = λ k d within. (below.exact (get_or (shift_ids shifts) k d)).0
        (Contains-get_or (shift_ids shifts) k d within);
    values = are;
  };
}

-- where it could be made
pub removed : {X E : Type 0} (product : ProductValue) (old new : TreeValue) (edge : EdgeId) (items : X → List Shift) (result : Result X E) →
    OnOk result (IsOptimalOn product new) → OnOk result (KeepsApart old new edge) →
    IfOk result (λ shifts. AreBelow old edge (shift_ids (items shifts))) →
    IfOk result (λ shifts. AreShifts old new (items shifts)) →
    IfOk result (λ shifts. HasChanged (Remove edge) product old new (items shifts))
removed product old new edge items (Ok shifts) optimal keeps below are =
    removal product old new edge (items shifts) optimal keeps below are
removed product old new edge items (Err fault) optimal keeps below are = below

-- ---- an expiry

module _ (old new : TreeValue) (now : ℕ) (gone : Expires old new now) where
  -- a node that is left stood there
  stood : (id : NodeId) (node : Node) → node_of new id ≡ Some node → node_of old id ≡ Some node
  stood id node is = (living_some now (node_of old id) node (sym (gone id) ∙ is)).0

  -- what is left is as it was
  expired_keeps : Keeps old new
  expired_keeps = record {
    same = λ id before after was is value. some_is_one after before (sym (stood id after is) ∙ was);
    fresh = λ id after is new_value. absurd (new_value after (stood id after is) refl);
  }

  pub expired : (product : ProductValue) (shifts : List Shift) →
      WasOptimalBefore (Expire now) product old → IsSameBeside old new →
      AreDue old now (shift_ids shifts) → AreShifts old new shifts →
      HasChanged (Expire now) product old new shifts
  expired product shifts was beside due are = record {
    optimal = expiry_keeps_optimal was.0 (values_of product) (steps_of product) old new now was.2
        gone beside.root was.1;
    keeps = expired_keeps;
    touches = record {
      touched = λ k d within. (due.exact (get_or (shift_ids shifts) k d)).0
          (Contains-get_or (shift_ids shifts) k d within);
      values = are;
    };
  }

-- where it could be told
pub expired_result : {X E : Type 0} (old new : TreeValue) (now : ℕ) (shifts : List Shift)
    (result : Result X E) → Expires old new now → IsSameBeside old new →
    OnOk result (AreDue old now (shift_ids shifts)) → OnOk result (AreShifts old new shifts) →
    OnOk result ((product : ProductValue) → WasOptimalBefore (Expire now) product old →
    HasChanged (Expire now) product old new shifts)
expired_result old new now shifts (Ok one) gone beside due are =
    λ product was. expired old new now gone product shifts was beside due are
expired_result old new now shifts (Err fault) gone beside due are = due

-- ---- another order

-- the same shifts
pub touches_moved : (change : Change) (old new : TreeValue) (shifts sorted : List Shift) →
    IsPermutation shifts sorted → Touches change old new shifts →
    Touches change old new sorted
touches_moved change old new shifts sorted moved touches =
    let ids = shift_ids shifts in
    let ids_moved = IsPermutation-map (λ (each : Shift). each.id) shifts sorted moved in
    record {
      touched = All-permutation (IsTouched change old new) ids (shift_ids sorted) ids_moved
          touches.touched;
      values = record {
        values = All-permutation (IsShift old new) shifts sorted moved touches.values.values;
        once = IsDistinct-IsPermutation same_node same_node_laws.symm ids (shift_ids sorted)
            ids_moved touches.values.once;
        others = λ id apart. touches.values.others id (λ there. apart
            (Contains-permutation ids (shift_ids sorted) id ids_moved there));
      };
    }

-- a place that isn't before another has no lesser vertex
not_before : (first second : NodeId) → is_lt (id_cmp second first) ≡ false →
    first.vertex ≤ second.vertex
not_before first second is = by (nat_lt second.vertex first.vertex) refl
  where
    by : (b : Bool) → nat_lt second.vertex first.vertex ≡ b → first.vertex ≤ second.vertex
    by true less = absurd (true≢false (sym (ap (λ (b : Bool). is_lt (ordering_then
        (cond b Less (cond (second.vertex == first.vertex) Equal Greater))
        (nat_cmp second.state first.state))) less) ∙ is))
    by false other = ltb-false second.vertex first.vertex other

-- places in order are in the order of their vertices
pub by_vertex : (shifts : List Shift) → IsSorted id_cmp (shift_ids shifts) → IsByVertex shifts
by_vertex shifts sorted = IsNonDecreasingBy-from_all_adjacent
    (λ (each : Shift). each.id.vertex) shifts
    (λ k d within.
    let second = get_or-map (λ (each : Shift). each.id) shifts (k + 1) d d.id within in
    let first = get_or-map (λ (each : Shift). each.id) shifts k d d.id (omega (arith, within)) in
    let many = length-map shifts (λ (each : Shift). each.id) in
    not_before (get_or shifts k d).id (get_or shifts (k + 1) d).id
    (ap (λ (id : NodeId). is_lt (id_cmp id (get_or shifts k d).id)) (sym second)
    ∙ ap (λ (id : NodeId). is_lt (id_cmp (get_or (shift_ids shifts) (k + 1) d.id) id)) (sym first)
    ∙ sorted k d.id (omega arith) (omega (arith, many, within))))
