-- What a removal of an edge changes in a tree.
use Rattle.std.specs.Prelude.{◌≡◌, ◌≢◌, ℕ, ◌+◌, ◌*◌, ◌≤◌, List, length, All, AllPairs, Option, None, Some}
use Rattle.edge_store.specs.declared.edge.EdgeId.{EdgeId}
use Rattle.edge_store.specs.Edges.{Edges}
use Rattle.delta_tree.specs.declared.node.NodeId.{NodeId}
use Rattle.delta_tree.specs.declared.node.Node.{Node}
use Rattle.delta_tree.specs.declared.node.Shift.{Shift}
use Rattle.delta_tree.specs.Nodes.{TreeValue, node_of, value_of}
use Rattle.delta_tree.specs.Paths.{IsBelow}
use Rattle.delta_tree.specs.Changes.{AreBelow, AreShifts, shift_ids}
use Rattle.tree_insert.specs.Trees.{IsOptimal, count_outs}
use Rattle.tree_delete.specs.Entries.{count_ins}

-- the edge has no value any more, and all others have the value that they had
pub record IsRemoved (old new : EdgeId → Option ℕ) (edge : EdgeId) : Type 0 where
  pub gone : new edge ≡ None
  pub others : (each : EdgeId) → each ≢ edge → new each ≡ old each

-- the tree was optimal before this edge was removed
abbrev pub WasOptimalWith : (EdgeId → Option ℕ) → (ℕ → ℕ → Option ℕ) → TreeValue → EdgeId → Type 0
WasOptimalWith values step tree edge =
    (before : EdgeId → Option ℕ) × IsOptimal before step tree × IsRemoved before values edge

-- a node on whose path the edge didn't stand stays as it was, with its value, its parent, its
-- parent edge and its stamp; each other node has a stamp that is at least the number of puts before
pub record KeepsApart (old new : TreeValue) (edge : EdgeId) : Type 0 where
  pub same : (id : NodeId) (node : Node) →
      node_of old id ≡ Some node → (IsBelow old edge id → ⊥) → node_of new id ≡ Some node
  pub fresh : (id : NodeId) (after : Node) →
      node_of new id ≡ Some after →
      ((before : Node) → node_of old id ≡ Some before → IsBelow old edge id) →
      old.puts ≤ after.stamp

-- the place with the value before, and with the one that it has in this tree
abbrev pub with_after : TreeValue → Shift → Shift
with_after tree shift = record {
  id = shift.id;
  before = shift.before;
  after = value_of tree shift.id;
}

-- the steps are at most one for each node on whose path the edge stood, one for each edge that ends
-- at it, and two for each edge that leaves it
pub record CountsCut (store : Edges) (old : TreeValue) (edge : EdgeId) (start steps : ℕ)
    : Type 0 where
  pub nodes : List NodeId
  pub apart : AllPairs ◌≢◌ nodes
  pub below : All (IsBelow old edge) nodes
  pub few : steps ≤ start + length nodes + count_ins store nodes + 2 * count_outs store nodes

-- one step for each of these nodes, and one for each edge that leaves it
abbrev pub CountsFound : Edges → List NodeId → ℕ → ℕ → Type 0
CountsFound store ids start steps = steps ≡ start + length ids + count_outs store ids

-- what a removal that ends keeps: nodes on whose path the edge didn't stand stay as they were, and
-- only the others and the edges at them are counted
pub record Repairs (store : Edges) (old new : TreeValue) (edge : EdgeId) (start total : ℕ)
    : Type 0 where
  pub keeps : KeepsApart old new edge
  pub steps : CountsCut store old edge start total

-- the shifts are the places of the nodes on whose path the edge stood, with the values before and
-- after
pub record ReportsCut (old new : TreeValue) (edge : EdgeId) (shifts : List Shift) : Type 0 where
  pub below : AreBelow old edge (shift_ids shifts)
  pub are_shifts : AreShifts old new shifts
