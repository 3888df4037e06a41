-- A tree as contracts see it: a root, a finite map from vertices with states to nodes, and the
-- number of puts made on it. A node is the record of what the tree keeps of it: its value, its
-- parent node, its parent edge and its stamp.
use Rattle.std.specs.Prelude.{◌≡◌, ℕ, ◌^◌, ◌<◌, ◌⊎◌, ◌↔◌, Bool, ◌&&◌, ◌==◌}
use Rattle.std.specs.Prelude.{List, Contains, Option, Some, option_map}
use Rattle.std.specs.List.{IsDistinct}
use Rattle.std.specs.Map.{lookup, keys_of}
use Rattle.edge_store.specs.declared.edge.EdgeId.{EdgeId}
use Rattle.delta_tree.specs.declared.node.NodeId.{NodeId}
pub use Rattle.delta_tree.specs.declared.node.Node.{Node}

-- the vertex of the root, the nodes in the order of a walk, and the number of puts so far
pub record TreeValue : Type 0 where
  pub root : ℕ
  pub nodes : List (NodeId × Node)
  pub puts : ℕ

-- ---- the map

-- the place of a vertex with a state
abbrev pub node_id : ℕ → ℕ → NodeId
node_id vertex state = record { vertex = vertex; state = state }

-- the same vertex with the same state
abbrev pub same_node : NodeId → NodeId → Bool
same_node first second = (first.vertex == second.vertex) && (first.state == second.state)

-- where the root stands: at its vertex, with the state 0
abbrev pub root_id : TreeValue → NodeId
root_id tree = node_id tree.root 0

-- the node that stands there in a list of nodes
abbrev pub node_in : List (NodeId × Node) → NodeId → Option Node
node_in nodes id = lookup (same_node id) nodes

-- the node of a vertex with a state, or none where the tree has none there
abbrev pub node_of : TreeValue → NodeId → Option Node
node_of tree id = node_in tree.nodes id

-- the value of that node
abbrev pub value_of : TreeValue → NodeId → Option ℕ
value_of tree id = option_map (λ (node : Node). node.value) (node_of tree id)

-- ---- what each tree keeps

-- the edge goes from the one vertex to the other
pub record Joins (from : NodeId) (edge : EdgeId) (to : NodeId) : Type 0 where
  pub leaves : edge.from ≡ from.vertex
  pub ends : edge.to ≡ to.vertex

-- the one node is before the other: by value falling, and for equal values by stamp rising
abbrev pub IsBefore : Node → Node → Type 0
IsBefore first second =
    (second.value < first.value) ⊎ ((first.value ≡ second.value) × (first.stamp < second.stamp))

-- a node hangs below the root, or below a node that is before it
abbrev pub HasParent : TreeValue → Node → Type 0
HasParent tree node =
    (node.parent ≡ root_id tree)
    ⊎ ((parent : Node) × (node_of tree node.parent ≡ Some parent) × IsBefore parent node)

-- what holds of each node of a tree
pub record Stands (tree : TreeValue) (id : NodeId) (node : Node) : Type 0 where
  pub parent : HasParent tree node
  pub joins : Joins node.parent node.edge id
  pub state : 0 < id.state
  pub value : node.value < 2 ^ 64
  pub stamp : node.stamp < tree.puts

-- a root with nodes that are a tree
abbrev pub IsTree : TreeValue → Type 0
IsTree tree = (id : NodeId) (node : Node) → node_of tree id ≡ Some node → Stands tree id node

-- ---- walks

-- the nodes in the order of a walk
abbrev pub ids_of : TreeValue → List NodeId
ids_of tree = keys_of tree.nodes

-- the walk gives exactly the nodes of the tree, each at one place
pub record GivesNodes (tree : TreeValue) : Type 0 where
  pub exact : (id : NodeId) →
      Contains (ids_of tree) id ↔ ((node : Node) × (node_of tree id ≡ Some node))
  pub once : IsDistinct same_node (ids_of tree)
