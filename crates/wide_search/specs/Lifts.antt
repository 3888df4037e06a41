-- The nodes that changed in a table, with the values that were there before.
use Rattle.std.specs.Prelude.{All, AllPairs, None, ◌≢◌}
use Rattle.std.specs.Prelude.{◌≡◌, ℕ, ◌≤◌, Bool, ◌&&◌, ◌==◌, List, Option, find}
use Rattle.std.specs.Option.{MatchOption}
use Rattle.delta_tree.specs.declared.node.NodeId.{NodeId}
use Rattle.delta_tree.specs.Nodes.{same_node}
use Rattle.tree_insert.specs.Best.{IsAtLeast}
use Rattle.tree_insert.specs.Trees.{IsRisen, Keeps}
use Rattle.place_table.specs.declared.gain.Gain.{Gain}
use Rattle.place_table.specs.Table.{TableValue, node_at, tree_in, value_at}
use Rattle.wide_search.specs.declared.lifts.Lift.{Lift}

-- the lift of a gain at a place
abbrev pub lift_at : NodeId → Gain → Lift
lift_at id gain = record { root = gain.root; id = id; before = gain.before }

-- the lift is of this root at this place
abbrev pub is_lift : ℕ → NodeId → Lift → Bool
is_lift root id lift = (lift.root == root) && same_node lift.id id

-- the first lift of a root at a place, or none where the list has none
abbrev pub lift_of : List Lift → ℕ → NodeId → Option Lift
lift_of lifts root id = find (is_lift root id) lifts

-- the root has a new node at the place, or a higher value there; and the lift has the value
-- that was there before
pub record IsLiftSince (old new : TableValue) (root : ℕ) (id : NodeId) (lift : Lift) : Type 0 where
  pub before : lift.before ≡ value_at old root id
  pub risen : IsRisen (tree_in old root) (tree_in new root) id

-- the first lift of a root at a place says what was there before it rose, and a root that the list
-- has no lift of at a place has the node there that it had
abbrev pub AreLifts : TableValue → TableValue → List Lift → Type 0
AreLifts old new lifts = (root : ℕ) (id : NodeId) →
    MatchOption (lift_of lifts root id) (node_at new root id ≡ node_at old root id)
    (IsLiftSince old new root id)

-- of two lifts of one root at one place the second has a value before
abbrev pub IsLater : Lift → Lift → Type 0
IsLater first second = first.root ≡ second.root → first.id ≡ second.id → second.before ≢ None

-- the list tells what changed: the first lift of a root at a place says what was there before, each
-- lift is of a root that rose, and one without a value before is the first one there; there were no
-- fewer puts, and the same tree is shown
pub record ReportsLifts (old new : TableValue) (lifts : List Lift) : Type 0 where
  pub first : AreLifts old new lifts
  pub risen : All (λ (lift : Lift). IsRisen (tree_in old lift.root) (tree_in new lift.root) lift.id)
      lifts
  pub later : AllPairs IsLater lifts
  pub puts : old.puts ≤ new.puts
  pub shown : new.root ≡ old.root

-- the trees come from those before by raises: a node that doesn't rise stays as it was, and no
-- value falls
pub record RaisesTrees (old new : TableValue) : Type 0 where
  pub keeps : (root : ℕ) → Keeps (tree_in old root) (tree_in new root)
  pub rises : (root : ℕ) (id : NodeId) (number : ℕ) →
      IsAtLeast number (value_at old root id) → IsAtLeast number (value_at new root id)

-- a search: what its last raise changed
pub record WideValue : Type 0 where
  pub lifts : List Lift
