-- The path from the root of a tree to a node, by the parents of the nodes.
use Rattle.std.specs.Prelude.{◌≡◌, Bool, ◌&&◌, ◌==◌, List, [], ◌∷◌, Some, Contains, reverse}
use Rattle.edge_store.specs.declared.edge.EdgeId.{EdgeId}
use Rattle.edge_store.specs.Edges.{same_edge}
use Rattle.delta_tree.specs.declared.node.NodeId.{NodeId}
use Rattle.delta_tree.specs.Nodes.{Node, TreeValue, node_of, root_id}

-- the parent edges from a node up to the root, that of the node first
abbrev pub LeadsUp : TreeValue → NodeId → List EdgeId → Type 0
LeadsUp tree id [] = id ≡ root_id tree
LeadsUp tree id (edge ∷ edges) =
    (node : Node) × (node_of tree id ≡ Some node) × (node.edge ≡ edge)
    × LeadsUp tree node.parent edges

-- the parent edges from the root down to a node, in their order
abbrev pub IsPathTo : TreeValue → NodeId → List EdgeId → Type 0
IsPathTo tree id path = LeadsUp tree id (reverse path)

-- the edge stands on the path from the root to the node
abbrev pub IsBelow : TreeValue → EdgeId → NodeId → Type 0
IsBelow tree edge id = (up : List EdgeId) × LeadsUp tree id up × Contains up edge

-- a node stands there and hangs by this edge
abbrev pub HangsBy : TreeValue → EdgeId → NodeId → Type 0
HangsBy tree edge id =
    (node : Node) × (node_of tree id ≡ Some node) × (node.edge ≡ edge)

-- a node stands there and hangs below this place by this edge
abbrev pub HangsBelow : TreeValue → NodeId → EdgeId → NodeId → Type 0
HangsBelow tree parent edge id =
    (node : Node) × (node_of tree id ≡ Some node) × (node.parent ≡ parent) × (node.edge ≡ edge)

-- a node hangs by this edge, at the end of which it stands
abbrev pub hangs_by : EdgeId → NodeId × Node → Bool
hangs_by edge each = (each.0.vertex == edge.to) && same_edge each.1.edge edge
