-- The places where nodes came or went, by the shifts.
use Rattle.std.proofs.Common.{◌≡◌, ◌≢◌, ◌⊎◌, inl, inr, ℕ, suc, arith, Bool, true, false, not, ◌==◌, List, [], ◌∷◌, get_or, length, Option, None, Some, option_map, refl, sym, ap, subst, ◌∙◌, Contains, true≢false}
use Rattle.std.specs.Prelude.{All, filter, is_some, cond}
use Rattle.std.proofs.lemmas.Bool.{eqb-true, false_from_ne_true}
use Rattle.std.proofs.lemmas.List.Elements.{All-contains, Contains-get_or, filter_passes}
use Rattle.edge_store.specs.declared.edge.EdgeId.{EdgeId}
use Rattle.delta_tree.specs.declared.node.NodeId.{NodeId}
use Rattle.delta_tree.specs.declared.node.Node.{Node}
use Rattle.delta_tree.specs.declared.node.Shift.{Shift}
use Rattle.delta_tree.specs.Nodes.{TreeValue, node_of, same_node, value_of}
use Rattle.delta_tree.specs.Paths.{IsBelow}
use Rattle.delta_tree.specs.Changes.{AreShifts, IsShift, shift_ids}
use Rattle.delta_tree.proofs.Ids.{same_node_is, same_node_laws}
use Rattle.tree_insert.proofs.Members.{contains_head, contains_tail, contains_cases, contains_none}
use Rattle.source_tree.specs.Taking.{AreMoved, IsTouched, TellsTouched, is_raise, stands}
use Rattle.source_tree.specs.Telling.{Touches, moved_ids, moves}
use Rattle.source_tree.specs.declared.change.Change.{Change}
use Rattle.source_tree.specs.declared.change.Change.TheVariants.{Raise, Remove, Expire}
use Rattle.source_tree.proofs.Shifts.{HasShift, has_shift, is_listed, same_value}

-- ---- the list

abbrev is_move : Shift → Bool
is_move shift = moves shift.before shift.after

-- ---- its members

filter_has : (shifts : List Shift) (shift : Shift) → Contains shifts shift →
    is_move shift ≡ true → Contains (filter is_move shifts) shift
filter_has [] shift there is = absurd (contains_none shift there)
filter_has (first ∷ rest) shift there is =
    by (λ more. filter_has rest shift more is) (is_move first) refl
  where
    by : (Contains rest shift → Contains (filter is_move rest) shift) → (b : Bool) →
        is_move first ≡ b → Contains (filter is_move (first ∷ rest)) shift
    by further true first_is = subst (λ (b : Bool). Contains (cond b (first ∷ filter is_move rest)
        (filter is_move rest)) shift) (sym first_is)
        (elim (contains_cases first rest shift there) [
          | inl same ↦ subst (Contains (first ∷ filter is_move rest)) same
              (contains_head first (filter is_move rest))
          | inr more ↦ contains_tail first (filter is_move rest) shift
              (further more)
        ])
    by further false first_is = subst (λ (b : Bool). Contains (cond b
        (first ∷ filter is_move rest) (filter is_move rest)) shift) (sym first_is)
        (elim (contains_cases first rest shift there) [
          | inl same ↦ absurd (true≢false (sym is
              ∙ ap (λ (each : Shift). is_move each) (sym same) ∙ first_is))
          | inr more ↦ further more
        ])

has_filtered : (shifts : List Shift) (shift : Shift) → Contains (filter is_move shifts) shift →
    Contains shifts shift
has_filtered [] shift there = absurd (contains_none shift there)
has_filtered (first ∷ rest) shift there =
    by (has_filtered rest shift) (is_move first) refl
  where
    by : (Contains (filter is_move rest) shift → Contains rest shift) → (b : Bool) →
        is_move first ≡ b → Contains (first ∷ rest) shift
    by further true first_is = elim (contains_cases first (filter is_move rest) shift
        (subst (λ (b : Bool). Contains (cond b (first ∷ filter is_move rest)
        (filter is_move rest)) shift) first_is there)) [
          | inl same ↦ subst (Contains (first ∷ rest)) same (contains_head first rest)
          | inr more ↦ contains_tail first rest shift (further more)
        ]
    by further false first_is = contains_tail first rest shift (further
        (subst (λ (b : Bool). Contains (cond b (first ∷ filter is_move rest)
        (filter is_move rest)) shift) first_is there))

-- a place is one of a shift, or none
pub is_shifted : (shifts : List Shift) (id : NodeId) →
    HasShift shifts id ⊎ (Contains (shift_ids shifts) id → ⊥)
is_shifted [] id = inr (contains_none id)
is_shifted (first ∷ rest) id = by (is_shifted rest id) (same_node first.id id) refl
  where
    by : HasShift rest id ⊎ (Contains (shift_ids rest) id → ⊥) → (b : Bool) →
        same_node first.id id ≡ b →
        HasShift (first ∷ rest) id ⊎ (Contains (shift_ids (first ∷ rest)) id → ⊥)
    by further true is = inl (record {
      shift = first;
      there = contains_head first rest;
      is = same_node_is first.id id is;
    })
    by further false other = elim further [
      | inl found ↦ inl (record {
        shift = found.shift;
        there = contains_tail first rest found.shift found.there;
        is = found.is;
      })
      | inr none ↦ inr (λ there.
          elim (contains_cases first.id (shift_ids rest) id there) [
            | inl is ↦ true≢false (sym (same_node_laws.refl first.id)
                ∙ ap (same_node first.id) is ∙ other)
            | inr more ↦ none more
          ])
    ]

-- ---- the values

abbrev is_there : Option ℕ → Bool
is_there value = is_some value

pub stands_is : (before after : Option ℕ) → moves before after ≡ true →
    is_some before ≢ is_some after
stands_is None None is = absurd (true≢false (sym is))
stands_is None (Some after) is = λ same. true≢false (sym same)
stands_is (Some before) None is = λ same. true≢false same
stands_is (Some before) (Some after) is = absurd (true≢false (sym is))

is_stands : (before after : Option ℕ) → is_some before ≢ is_some after →
    moves before after ≡ true
is_stands None None differs = absurd (differs refl)
is_stands None (Some after) differs = refl
is_stands (Some before) None differs = refl
is_stands (Some before) (Some after) differs = absurd (differs refl)

-- two that differ, of which one is known
other_one : (a b : Bool) → a ≡ true → a ≢ b → b ≡ false
other_one a true is differs = absurd (differs is)
other_one a false is differs = refl

module _ (old new : TreeValue) (shifts : List Shift) (are : AreShifts old new shifts) where
  record Moved (id : NodeId) : Type 0 where
    pub shift : Shift
    pub there : Contains shifts shift
    pub is : shift.id ≡ id
    pub move : is_move shift ≡ true

  moved_one : (id : NodeId) → Contains (moved_ids shifts) id → Moved id
  moved_one id there =
      let found = has_shift (filter is_move shifts) id there in
      record {
        shift = found.shift;
        there = has_filtered shifts found.shift found.there;
        is = found.is;
        move = All-contains (λ (each : Shift). is_move each ≡ true) (filter is_move shifts)
            found.shift (filter_passes is_move shifts) found.there;
      }

  before_of : (shift : Shift) → Contains shifts shift → (id : NodeId) → shift.id ≡ id →
      value_of old id ≡ shift.before
  before_of shift there id is = ap (value_of old) (sym is)
      ∙ (All-contains (IsShift old new) shifts shift are.values there).before

  after_of : (shift : Shift) → Contains shifts shift → (id : NodeId) → shift.id ≡ id →
      value_of new id ≡ shift.after
  after_of shift there id is = ap (value_of new) (sym is)
      ∙ (All-contains (IsShift old new) shifts shift are.values there).after

  differs : (id : NodeId) → Contains (moved_ids shifts) id → stands old id ≢ stands new id
  differs id there same =
      let found = moved_one id there in
      stands_is found.shift.before found.shift.after found.move
      (ap is_there (sym (before_of found.shift found.there id found.is))
      ∙ same ∙ ap is_there (after_of found.shift found.there id found.is))

  moves_there : (id : NodeId) → stands old id ≢ stands new id → Contains (moved_ids shifts) id
  moves_there id differ = elim (is_shifted shifts id) [
    | inl found ↦ subst (Contains (moved_ids shifts)) found.is
        (is_listed (filter is_move shifts) found.shift
        (filter_has shifts found.shift found.there
        (is_stands found.shift.before found.shift.after
        (λ same. differ (ap is_there (before_of found.shift found.there id found.is)
        ∙ same ∙ ap is_there (sym (after_of found.shift found.there id found.is)))))))
    | inr none ↦ absurd (differ (ap is_there (same_value old new shifts are id none)))
  ]

  touched_one : (change : Change) → All (IsTouched change old new) (shift_ids shifts) →
      (id : NodeId) → Contains (moved_ids shifts) id → IsTouched change old new id
  touched_one change touched id there =
      let found = moved_one id there in
      subst (IsTouched change old new) found.is
      (All-contains (IsTouched change old new) (shift_ids shifts) found.shift.id touched
      (is_listed shifts found.shift found.there))

-- a node stands where one is found
found_stands : (tree : TreeValue) (id : NodeId) (node : Node) → node_of tree id ≡ Some node →
    stands tree id ≡ true
found_stands tree id node is =
    ap (λ (found : Option Node). is_some (option_map (λ (each : Node). each.value) found)) is

below_stands : (tree : TreeValue) (edge : EdgeId) (id : NodeId) → IsBelow tree edge id →
    stands tree id ≡ true
below_stands tree edge id ([], leads, there) = absurd (contains_none edge there)
below_stands tree edge id (first ∷ rest, leads, there) =
    found_stands tree id leads.0 leads.1

-- by a raise nodes come, and by the others they go
way_of : (change : Change) (old new : TreeValue) (id : NodeId) → IsTouched change old new id →
    stands old id ≢ stands new id → stands new id ≡ is_raise change
way_of (Raise edge value) old new id risen differs = found_stands new id risen.0 risen.1
way_of (Remove edge) old new id below differs =
    other_one (stands old id) (stands new id) (below_stands old edge id below) differs
way_of (Expire now) old new id due differs =
    other_one (stands old id) (stands new id) (found_stands old id due.0 due.1) differs

module _ (change : Change) (old new : TreeValue) (shifts : List Shift)
    (touches : Touches change old new shifts) where
  pub are_moved : AreMoved change old new (moved_ids shifts)
  are_moved = record {
    exact = λ id. (
      differs old new shifts touches.values id,
      moves_there old new shifts touches.values id,
    );
    way = λ k d within.
        let id = get_or (moved_ids shifts) k d in
        let there = Contains-get_or (moved_ids shifts) k d within in
        way_of change old new id
        (touched_one old new shifts touches.values change touches.touched id there)
        (differs old new shifts touches.values id there);
  }

-- a list with a first element has some
not_none : (more : ℕ) → (suc more == 0) ≡ false
not_none more = false_from_ne_true (suc more == 0)
    (λ is. omega (arith, eqb-true (suc more) 0 is))

-- whether there is a shift
pub tells_touched : (change : Change) (old new : TreeValue) (shifts : List Shift)
    (empty : Bool) → empty ≡ (length shifts == 0) → Touches change old new shifts →
    TellsTouched change old new (not empty)
tells_touched change old new [] empty is touches = record {
  some = λ touched. absurd (true≢false (sym touched ∙ ap not is));
  none = λ untouched id. touches.values.others id (contains_none id);
}
tells_touched change old new (first ∷ rest) empty is touches = record {
  some = λ touched. (
    first.id,
    All-contains (IsTouched change old new)
        (shift_ids (first ∷ rest)) first.id touches.touched
        (contains_head first.id (shift_ids rest)),
  );
  none = λ untouched. absurd (true≢false
      (sym (ap not (is ∙ not_none (length rest))) ∙ untouched));
}
