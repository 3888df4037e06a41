-- The values that places have after a search.
use Rattle.std.proofs.Common.{◌≡◌, ◌≢◌, ℕ, ◌<◌, ◌≤◌, ◌+◌, ⊎_elim, List, None, ◌++◌, length, map, get_or, set, take, drop, drop_of_length-le, take_all, ext_get_or, get_or-set_other, get_or-set_same, append-nil, refl, sym, ap, subst, ◌∙◌, arith}
use Rattle.std.proofs.lemmas.Bool.{cases_eq}
use Rattle.std.proofs.lemmas.List.{get_or-map, get_or_default, length-map, length-set}
use Rattle.std.proofs.lemmas.List.Elements.{All-map, All-weaker}
use Rattle.std.specs.List.{IsDistinct}
use Rattle.std.proofs.lemmas.Simd.{map-map}
use Rattle.delta_tree.specs.declared.node.NodeId.{NodeId}
use Rattle.delta_tree.specs.declared.node.Shift.{Shift}
use Rattle.delta_tree.specs.Nodes.{TreeValue, node_id, same_node}
use Rattle.delta_tree.specs.Changes.{AreShifts, ChangesAtMost, IsShift, shift_ids}
use Rattle.tree_delete.specs.Removal.{with_after}

-- what a read past the end of a list would give
abbrev pub no_shift : Shift
no_shift = record { id = node_id 0 0; before = None; after = None }

-- ---- the walk over them

-- the first places have their values in this tree, the others are as they were
pub record AreTold (tree : TreeValue) (old new : List Shift) (bound : ℕ) : Type 0 where
  pub as_many : length new ≡ length old
  pub told : (k : ℕ) (d : Shift) → k < bound → get_or new k d ≡ with_after tree (get_or old k d)
  pub left : (k : ℕ) (d : Shift) → bound ≤ k → get_or new k d ≡ get_or old k d

module _ (tree : TreeValue) (old new : List Shift) where
  pub told_none : new ≡ old → AreTold tree old new 0
  told_none is = record {
    as_many = ap (λ (each : List Shift). length each) is;
    told = λ k d within. absurd (omega (arith, within));
    left = λ k d from. ap (λ (each : List Shift). get_or each k d) is;
  }

  pub told_more : (bound : ℕ) (e : Shift) → bound < length new → AreTold tree old new bound →
      AreTold tree old (set new bound (with_after tree (get_or new bound e))) (bound + 1)
  told_more bound e within are = record {
    as_many = length-set new bound one ∙ are.as_many;
    told = λ k d below. ⊎_elim
        (λ (same : k ≡ bound).
        ap (λ (at : ℕ). get_or (set new bound one) at d) same
        ∙ get_or-set_same new bound one d within
        ∙ ap (with_after tree) (get_or_default new bound e d within
        ∙ are.left bound d (omega arith)
        ∙ ap (λ (at : ℕ). get_or old at d) (sym same)))
        (λ (apart : k ≢ bound). get_or-set_other new bound k one d apart
        ∙ are.told k d (omega (arith, below, apart)))
        (cases_eq k bound);
    left = λ k d from.
        get_or-set_other new bound k one d (λ same. omega (arith, same, from))
        ∙ are.left k d (omega (arith, from));
  }
    where
      one : Shift
      one = with_after tree (get_or new bound e)

  pub told_all : (bound : ℕ) → length old ≤ bound → AreTold tree old new bound →
      new ≡ map (with_after tree) old
  told_all bound all are = ext_get_or no_shift new (map (with_after tree) old)
      (are.as_many ∙ sym (length-map old (with_after tree)))
      (λ k within.
      let there : k < length old = omega (arith, within, are.as_many) in
      are.told k no_shift (omega (arith, there, all))
      ∙ sym (get_or-map (with_after tree) old k no_shift no_shift there))

-- a list that was written whole
pub written : {X : Type 0} (count : ℕ) (old new : List X) → length new ≡ count →
    length old ≡ count → take count (new ++ drop (length new) old) ≡ new
written {X} count old new one other =
    ap (λ (rest : List X). take count (new ++ rest))
    (drop_of_length-le old (omega (arith, one, other)))
    ∙ ap (take count) (append-nil new) ∙ take_all count new (omega (arith, one))

-- ---- what they tell

pub ids_told : (tree : TreeValue) (shifts : List Shift) →
    shift_ids (map (with_after tree) shifts) ≡ shift_ids shifts
ids_told tree shifts = map-map (λ (each : Shift). each.id) (with_after tree) shifts

-- the values before are those of the cut, and those after the ones that the places have now
pub told_shifts : (old middle new : TreeValue) (shifts : List Shift) →
    AreShifts old middle shifts → ChangesAtMost old new (shift_ids shifts) →
    AreShifts old new (map (with_after new) shifts)
told_shifts old middle new shifts are changes = record {
  values = All-map (IsShift old new) (with_after new) shifts
      (All-weaker (IsShift old middle) (λ (each : Shift). IsShift old new (with_after new each))
      (λ each is. record { before = is.before; after = refl }) shifts are.values);
  once = subst (IsDistinct same_node) (sym (ids_told new shifts)) are.once;
  others = subst (ChangesAtMost old new) (sym (ids_told new shifts)) changes;
}

-- ---- their places

abbrev place : Shift → NodeId
place each = each.id

pub as_many : (shifts : List Shift) → length (shift_ids shifts) ≡ length shifts
as_many shifts = length-map shifts place

pub id_at : (shifts : List Shift) (k : ℕ) → k < length shifts →
    get_or (shift_ids shifts) k (node_id 0 0) ≡ (get_or shifts k no_shift).id
id_at shifts k within = get_or-map place shifts k no_shift (node_id 0 0) within
