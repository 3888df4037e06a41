-- One table of the nodes of many trees. A place is a vertex with a state; at each place stand the
-- roots that reach it, each with the node of its tree there.
use Rattle.std.specs.Prelude.{◌≡◌, ℕ, ◌↔◌, nat_eq, nat_lt, List, [], ◌∷◌, Option, None, Some, Bool, true, Contains, map, min}
use Rattle.std.specs.List.{IsDistinct}
use Rattle.std.specs.Map.{lookup}
use Rattle.edge_store.specs.declared.edge.EdgeId.{EdgeId}
use Rattle.delta_tree.specs.declared.node.NodeId.{NodeId}
use Rattle.delta_tree.specs.declared.node.Node.{Node}
use Rattle.delta_tree.specs.Nodes.{TreeValue, node_id, node_of, same_node, value_of}
use Rattle.delta_tree.specs.Paths.{HangsBy}
use Rattle.place_table.specs.declared.gain.Gain.{Gain}

-- a place, and the roots there, each with its node
pub record PlaceValue : Type 0 where
  pub id : NodeId
  pub nodes : List (ℕ × Node)

-- the root whose tree is shown, the places that have nodes, the puts so far, and the places that
-- are marked
pub record TableValue : Type 0 where
  pub root : ℕ
  pub places : List PlaceValue
  pub puts : ℕ
  pub marked : List NodeId

-- ---- the trees

-- the node of a root at one place, or none where it isn't among those there
abbrev pub node_here : ℕ → PlaceValue → Option Node
node_here root place = lookup (nat_eq root) place.nodes

-- the nodes with one more, where there is one
abbrev pub with_node : NodeId → Option Node → List (NodeId × Node) → List (NodeId × Node)
with_node id None nodes = nodes
with_node id (Some node) nodes = (id, node) ∷ nodes

-- the nodes of a root, each with its place
abbrev pub nodes_of : List PlaceValue → ℕ → List (NodeId × Node)
nodes_of [] root = []
nodes_of (place ∷ places) root =
    with_node place.id (node_here root place) (nodes_of places root)

-- the tree of a root, with the puts of the whole table
abbrev pub tree_in : TableValue → ℕ → TreeValue
tree_in table root = record {
  root = root;
  nodes = nodes_of table.places root;
  puts = table.puts;
}

-- the node of a root at a place, or none
abbrev pub node_at : TableValue → ℕ → NodeId → Option Node
node_at table root id = node_of (tree_in table root) id

-- its value
abbrev pub value_at : TableValue → ℕ → NodeId → Option ℕ
value_at table root id = value_of (tree_in table root) id

-- ---- what a table shows of one place or vertex

-- the list has exactly the states with which some root has a node at the vertex
abbrev pub AreStates : TableValue → ℕ → List ℕ → Type 0
AreStates table vertex states = (state : ℕ) →
    Contains states state
    ↔ ((root : ℕ) × (node : Node) × (node_at table root (node_id vertex state) ≡ Some node))

-- the list has exactly the roots whose node at the place hangs by this edge, each once
pub record AreRootsBy (table : TableValue) (id : NodeId) (edge : EdgeId) (roots : List ℕ)
    : Type 0 where
  pub exact : (root : ℕ) → Contains roots root ↔ HangsBy (tree_in table root) edge id
  pub once : IsDistinct nat_eq roots

-- the list has exactly the places at which the root has a node, each once
pub record ArePlacesOf (table : TableValue) (root : ℕ) (ids : List NodeId) : Type 0 where
  pub exact : (id : NodeId) →
      Contains ids id ↔ ((node : Node) × (node_at table root id ≡ Some node))
  pub once : IsDistinct same_node ids

-- the value is greater than this one, where there is one
abbrev pub is_above : Option ℕ → ℕ → Bool
is_above None value = true
is_above (Some number) value = nat_lt number value

-- the roots of gains
abbrev pub gain_roots : List Gain → List ℕ
gain_roots gains = map (λ (gain : Gain). gain.root) gains

-- the root has a value above this one at the place, and gains up to that or the most
abbrev pub IsGainAt : TableValue → NodeId → Option ℕ → ℕ → Gain → Type 0
IsGainAt table id above most gain =
    (node : Node) × (node_at table gain.root id ≡ Some node) × (is_above above node.value ≡ true)
    × (gain.cap ≡ min node.value most) × (gain.before ≡ above)

-- the list has exactly the gains of the roots whose value at the place is above this one, each
-- root once
pub record AreGainsAt (table : TableValue) (id : NodeId) (above : Option ℕ) (most : ℕ)
    (gains : List Gain) : Type 0 where
  pub exact : (gain : Gain) → Contains gains gain ↔ IsGainAt table id above most gain
  pub once : IsDistinct nat_eq (gain_roots gains)
