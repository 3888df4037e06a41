-- What the definitions are meant to say, as laws.
use Rattle.std.specs.Prelude.{ℕ, ◌+◌, ◌*◌, ◌≤◌, List, length, All, Contains, Option, None}
use Rattle.edge_store.specs.declared.edge.EdgeId.{EdgeId}
use Rattle.edge_store.specs.Edges.{Edges, Updates, ins_of, outs_of, value_of}
use Rattle.delta_tree.specs.declared.node.NodeId.{NodeId}
use Rattle.delta_tree.specs.Nodes.{TreeValue, IsTree}
use Rattle.delta_tree.specs.Paths.{HangsBy, IsBelow}
use Rattle.tree_insert.specs.Trees.{IsOptimal, count_outs}
use Rattle.tree_delete.specs.Entries.{count_ins}
use Rattle.tree_delete.specs.Removal.{CountsCut, IsRemoved}

-- what the removal of a store does is a removal of the edge
abbrev pub RemovalsAreRemovals : Type 0
RemovalsAreRemovals = (old new : Edges) (edge : EdgeId) →
    Updates old new edge None → IsRemoved (value_of old) (value_of new) edge

-- where the edge stood on no path, no step is counted
abbrev pub NoCutNoStep : Type 0
NoCutNoStep = (store : Edges) (old : TreeValue) (edge : EdgeId) (start steps : ℕ) →
    CountsCut store old edge start steps → ((id : NodeId) → IsBelow old edge id → ⊥) →
    steps ≤ start

-- where the nodes on whose path the edge stood are all in a list, the steps are at most one for each
-- node of the list, one for each edge that ends at one of these, and two for each edge that leaves one
abbrev pub StepsAreWithinCut : Type 0
StepsAreWithinCut = (store : Edges) (old : TreeValue) (edge : EdgeId) (start steps : ℕ)
    (cut : List NodeId) → CountsCut store old edge start steps →
    ((id : NodeId) → IsBelow old edge id → Contains cut id) →
    steps ≤ start + length cut + count_ins store cut + 2 * count_outs store cut

-- no more than these numbers of edges end at the vertex of the node, and leave it
abbrev pub HasFewEdges : Edges → ℕ → ℕ → NodeId → Type 0
HasFewEdges store ins outs id =
    (length (ins_of store id.vertex) ≤ ins) × (length (outs_of store id.vertex) ≤ outs)

-- so where few edges stand at the vertices of these, the steps are few for each of them
abbrev pub FewEdgesFewSteps : Type 0
FewEdgesFewSteps = (store : Edges) (old : TreeValue) (edge : EdgeId) (start steps ins outs : ℕ)
    (cut : List NodeId) → CountsCut store old edge start steps →
    ((id : NodeId) → IsBelow old edge id → Contains cut id) →
    All (HasFewEdges store ins outs) cut →
    steps ≤ start + length cut * (1 + ins + 2 * outs)

-- where no node hangs by an edge that is removed, the tree is optimal still
abbrev pub RemovalElsewhereKeepsOptimal : Type 0
RemovalElsewhereKeepsOptimal = (before after : EdgeId → Option ℕ) (step : ℕ → ℕ → Option ℕ)
    (tree : TreeValue) (edge : EdgeId) →
    IsTree tree → IsOptimal before step tree → IsRemoved before after edge →
    ((id : NodeId) → HangsBy tree edge id → ⊥) → IsOptimal after step tree
