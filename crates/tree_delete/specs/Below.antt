-- The nodes below an edge, each found from its parent. No contract outside the crate cites this
-- file.
use Rattle.std.specs.Prelude.{ℕ, zero, suc, ◌<◌, Bool, false, ◌&&◌, cond, List, [], ◌∷◌, ◌++◌, length}
use Rattle.std.specs.Prelude.{map, All, Option, None, Some}
use Rattle.dfa_table.specs.DfaValue.{DfaValue}
use Rattle.edge_store.specs.declared.edge.EdgeId.{EdgeId}
use Rattle.edge_store.specs.declared.edge.HalfEdge.{HalfEdge}
use Rattle.edge_store.specs.Edges.{Edges, leaving, outs_of, same_edge}
use Rattle.delta_tree.specs.declared.node.NodeId.{NodeId}
use Rattle.delta_tree.specs.declared.node.Node.{Node}
use Rattle.delta_tree.specs.Nodes.{TreeValue, node_id, node_of, same_node}

-- ---- from one place, by one edge

-- whether a node stands there, and hangs below this place by this edge
abbrev pub hangs : Option Node → NodeId → EdgeId → Bool
hangs None parent edge = false
hangs (Some node) parent edge = same_edge node.edge edge && same_node node.parent parent

-- the node at the end of the edge that hangs so, where the automaton has a step to this state
abbrev pub child_at : TreeValue → NodeId → EdgeId → Option ℕ → Option NodeId
child_at tree from edge None = None
child_at tree from edge (Some state) =
    cond (hangs (node_of tree (node_id edge.to state)) from edge) (Some (node_id edge.to state))
    None

-- the node that hangs below this place by this edge, where there is one
abbrev pub child_of : (ℕ → ℕ → Option ℕ) → TreeValue → NodeId → EdgeId → Option NodeId
child_of step tree from edge = child_at tree from edge (step from.state edge.label)

-- as a list
abbrev pub nodes_in : Option NodeId → List NodeId
nodes_in None = []
nodes_in (Some id) = id ∷ []

-- ---- from several

-- their states are states of the automaton
abbrev pub AreWithin : DfaValue → List NodeId → Type 0
AreWithin dfa ids = All (λ (id : NodeId). id.state < length dfa.rows) ids

-- the nodes that hang below each of these places by its edge, in their order
abbrev pub children : (ℕ → ℕ → Option ℕ) → TreeValue → List (NodeId × EdgeId) → List NodeId
children step tree [] = []
children step tree (look ∷ looks) =
    nodes_in (child_of step tree look.0 look.1) ++ children step tree looks

-- the edge, from its vertex with each of the first states
abbrev pub starts : EdgeId → ℕ → List (NodeId × EdgeId)
starts edge zero = []
starts edge (suc state) = starts edge state ++ (node_id edge.from state, edge) ∷ []

-- from the place, the edge that a walk along its vertex gives
abbrev pub onward : NodeId → HalfEdge × ℕ → NodeId × EdgeId
onward from out = (from, leaving from.vertex out.0)

-- each edge that leaves the vertex of the place
abbrev pub onwards : Edges → NodeId → List (NodeId × EdgeId)
onwards store from = map (onward from) (outs_of store from.vertex)

-- those from each of these places
abbrev pub all_onwards : Edges → List NodeId → List (NodeId × EdgeId)
all_onwards store [] = []
all_onwards store (from ∷ froms) = onwards store from ++ all_onwards store froms
