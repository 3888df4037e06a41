-- The places that a search tells, with their values before and after.
use Rattle.std.proofs.Common.{◌≡◌, ◌+◌, ⊎_elim, Bool, true, false, List, [], ◌∷◌, ◌++◌, length, None, Some, refl, sym, ap, ap₂, subst, ◌∙◌, arith, Contains, get_or, option_map}
use Rattle.std.specs.List.{IsDistinct, list_any}
use Rattle.std.specs.Ordering.{is_lt}
use Rattle.std.specs.List.Sorted.{IsSorted, IsSortedByKey}
use Rattle.std.proofs.lemmas.List.{get_or-map, length-map, map-append}
use Rattle.std.proofs.lemmas.List.Elements.{All-contains, All-nil, All-push, Contains-append_left, Contains-get_or, Contains-push}
use Rattle.std.proofs.lemmas.Map.Keys.{IsDistinct-push}
use Rattle.std.proofs.lemmas.Map.Views.{Contains-from_any}
use Rattle.delta_tree.specs.declared.node.NodeId.{NodeId}
use Rattle.delta_tree.specs.declared.node.Node.{Node}
use Rattle.delta_tree.specs.declared.node.Shift.{Shift}
use Rattle.delta_tree.specs.Nodes.{TreeValue, node_of, same_node, value_of}
use Rattle.delta_tree.specs.Changes.{AreShifts, ChangesAtMost, IsShift, Puts, Raises, shift_ids}
use Rattle.delta_tree.specs.Dues.{id_cmp}
use Rattle.delta_tree.proofs.Ids.{nothing_once, same_node_is, same_node_laws}
use Rattle.tree_insert.specs.Best.{IsAtLeast}
use Rattle.tree_insert.specs.UnderWay.{AreFirm}
use Rattle.tree_insert.proofs.Nodes.{put_cases, put_here, raises_apart, value_is}

abbrev place : Shift → NodeId
place each = each.id

-- ---- their places

pub ids_push : (shifts : List Shift) (one : Shift) →
    shift_ids (shifts ++ one ∷ []) ≡ shift_ids shifts ++ one.id ∷ []
ids_push shifts one = map-append (λ (each : Shift). each.id) shifts (one ∷ [])

as_many : (shifts : List Shift) → length (shift_ids shifts) ≡ length shifts
as_many shifts = length-map shifts place

pub sorted_ids : (shifts : List Shift) → IsSortedByKey (λ (each : Shift). each.id) id_cmp shifts →
    IsSorted id_cmp (shift_ids shifts)
sorted_ids shifts sorted k d from within =
    let same = as_many shifts in
    let none : Shift = record { id = d; before = None; after = None } in
    ap₂ (λ (first second : NodeId). is_lt (id_cmp first second))
    (get_or-map place shifts (k + 1) none d (omega (arith, same, within)))
    (get_or-map place shifts k none d (omega (arith, same, within)))
    ∙ sorted k none from (omega (arith, same, within))

-- ---- before the first raise

pub shifts_none : (tree : TreeValue) (shifts : List Shift) → shifts ≡ [] →
    AreShifts tree tree shifts
shifts_none tree shifts none = subst (AreShifts tree tree) (sym none) (record {
  values = All-nil (IsShift tree tree);
  once = nothing_once;
  others = λ id apart. refl;
})

-- ---- one raise more

module _ (first old new : TreeValue) (shifts : List Shift) (to : NodeId) (node : Node)
    (puts : Puts old new to node) (raises : Raises old to node.value)
    (firm : AreFirm old node.value (shift_ids shifts)) (are : AreShifts first old shifts) where
  -- its place isn't among them, since they have as much already
  apart : Contains (shift_ids shifts) to → ⊥
  apart there = raises_apart old to node.value raises
      (All-contains (λ (id : NodeId). IsAtLeast node.value (value_of old id)) (shift_ids shifts) to
      firm there)

  kept : (shift : Shift) → Contains (shift_ids shifts) shift.id → IsShift first old shift →
      IsShift first new shift
  kept shift there is = record {
    before = is.before;
    after = ⊎_elim
        (λ (same : to ≡ shift.id).
        absurd (apart (subst (Contains (shift_ids shifts)) (sym same) there)))
        (λ (stays : node_of new shift.id ≡ node_of old shift.id).
        ap (option_map (λ (each : Node). each.value)) stays ∙ is.after)
        (put_cases old new to node puts shift.id);
  }

  none_same : (b : Bool) → list_any (same_node to) (shift_ids shifts) ≡ b → b ≡ false
  none_same true has = absurd (apart (Contains-from_any same_node_is to (shift_ids shifts) has))
  none_same false has = refl

  pub shifts_more : AreShifts first new
      (shifts ++ record { id = to; before = value_of old to; after = Some node.value } ∷ [])
  shifts_more = record {
    values = All-push (IsShift first new) shifts told
        (λ k d within. kept (get_or shifts k d)
        (subst (Contains (shift_ids shifts)) (get_or-map place shifts k d d.id within)
        (Contains-get_or (shift_ids shifts) k d.id (omega (arith, within, as_many shifts))))
        (are.values k d within))
        (record {
          before = ap (option_map (λ (each : Node). each.value)) (sym (are.others to apart));
          after = value_is new to node (put_here old new to node puts);
        });
    once = subst (IsDistinct same_node) (sym (ids_push shifts told))
        (IsDistinct-push same_node_laws (shift_ids shifts) to are.once
        (none_same (list_any (same_node to) (shift_ids shifts)) refl));
    others = subst (ChangesAtMost first new) (sym (ids_push shifts told))
        (λ id other. ⊎_elim
        (λ (same : to ≡ id). absurd (other (subst (Contains (shift_ids shifts ++ to ∷ [])) same
        (Contains-push (shift_ids shifts) to))))
        (λ (stays : node_of new id ≡ node_of old id). stays ∙ are.others id
        (λ there. other (Contains-append_left (shift_ids shifts) (to ∷ []) id there)))
        (put_cases old new to node puts id));
  }
    where
      told : Shift
      told = record { id = to; before = value_of old to; after = Some node.value }
