-- What the calls make of a tree.
use Rattle.std.specs.Prelude.{ℕ, List, All}
use Rattle.edge_store.specs.Edges.{Edges, value_of}
use Rattle.dfa_table.specs.DfaValue.{DfaValue, step_of}
use Rattle.delta_tree.specs.declared.node.Shift.{Shift}
use Rattle.delta_tree.specs.Nodes.{TreeValue}
use Rattle.delta_tree.specs.Changes.{AreShifts, shift_ids}
use Rattle.tree_insert.specs.Trees.{CountsOuts, HasOwnWays, IsLater, IsRisen, Keeps}

-- what a search keeps, also where it runs out of memory: each path of the tree is one of the store,
-- nodes that aren't raised stay as they were, and only the edges that leave raised ones are counted
pub record Relaxes (store : Edges) (dfa : DfaValue) (old new : TreeValue) (start total : ℕ)
    : Type 0 where
  pub paths : HasOwnWays (value_of store) (step_of dfa) new
  pub keeps : Keeps old new
  pub later : IsLater old new
  pub steps : CountsOuts store old new start total

-- the shifts are all places whose node changed, and each of these is new or raised
pub record ReportsRises (old new : TreeValue) (shifts : List Shift) : Type 0 where
  pub risen : All (IsRisen old new) (shift_ids shifts)
  pub are_shifts : AreShifts old new shifts
