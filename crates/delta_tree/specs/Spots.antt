-- The nodes of a tree in two lists side by side: the places with their values, and of each node
-- the rest.
use Rattle.std.specs.Prelude.{◌≡◌, ℕ, List, [], ◌∷◌, length, Some, slice_get}
use Rattle.std.specs.List.{IsDistinct}
use Rattle.std.specs.Map.{keys_of}
use Rattle.delta_tree.specs.declared.node.Link.{Link}
use Rattle.delta_tree.specs.declared.node.NodeId.{NodeId}
use Rattle.delta_tree.specs.declared.node_map.Rest.{Rest}
use Rattle.delta_tree.specs.declared.node_map.Spot.{Spot}
use Rattle.delta_tree.specs.Nodes.{Node, same_node, node_in}

-- what a node has beside its value
abbrev pub rest_of : Node → Rest
rest_of node = record { parent = node.parent; edge = node.edge; stamp = node.stamp }

-- by what a node hangs
abbrev pub link_of : Node → Link
link_of node = record { parent = node.parent; edge = node.edge }

-- a node of a value and the rest
abbrev pub whole : ℕ → Rest → Node
whole value rest = record {
  value = value;
  parent = rest.parent;
  edge = rest.edge;
  stamp = rest.stamp;
}

-- each value with its rest
abbrev pub joined : List (NodeId × ℕ) → List Rest → List (NodeId × Node)
joined [] rests = []
joined (each ∷ values) [] = []
joined (each ∷ values) (rest ∷ rests) = (each.0, whole each.1 rest) ∷ joined values rests

-- as many of the one as of the other, and each place stands once
pub record ArePaired (values : List (NodeId × ℕ)) (rests : List Rest) : Type 0 where
  pub even : length rests ≡ length values
  pub once : IsDistinct same_node (keys_of values)

-- the node of this place stands here, with this value
abbrev pub IsSpot : List (NodeId × Node) → NodeId → Spot → Type 0
IsSpot nodes id spot =
    (node : Node) × (slice_get nodes spot.place ≡ Some (id, node))
    × (node_in nodes id ≡ Some node) × (node.value ≡ spot.value)
