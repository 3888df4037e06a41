-- Laws of trees: what a tree keeps and what a call changes, said once more in other words.
use Rattle.std.specs.Prelude.{◌≡◌, ◌≢◌, ℕ, ◌<◌, ◌≤◌, ◌⊎◌, ◌↔◌, List, [], ◌∷◌, None, Some}
use Rattle.edge_store.specs.declared.edge.EdgeId.{EdgeId}
use Rattle.delta_tree.specs.declared.node.NodeId.{NodeId}
use Rattle.delta_tree.specs.Nodes.{Node, TreeValue, node_of, root_id, IsTree}
use Rattle.delta_tree.specs.Paths.{IsPathTo, IsBelow}
use Rattle.delta_tree.specs.Changes.{Puts, Expires}

-- ---- paths

-- each node has a path from the root
abbrev pub EachNodeHasAPath : Type 0
EachNodeHasAPath = (tree : TreeValue) → IsTree tree →
    (id : NodeId) (node : Node) → node_of tree id ≡ Some node →
    (path : List EdgeId) × IsPathTo tree id path

-- and one alone
abbrev pub PathsAreOne : Type 0
PathsAreOne = (tree : TreeValue) → IsTree tree →
    (id : NodeId) (one other : List EdgeId) → IsPathTo tree id one → IsPathTo tree id other →
    one ≡ other

-- edges that go on where the one before ends, from this vertex to that one
abbrev pub IsWalk : ℕ → List EdgeId → ℕ → Type 0
IsWalk from [] to = from ≡ to
IsWalk from (edge ∷ edges) to = (edge.from ≡ from) × IsWalk edge.to edges to

-- a path is a walk from the vertex of the root to that of the node
abbrev pub PathsAreWalks : Type 0
PathsAreWalks = (tree : TreeValue) → IsTree tree →
    (id : NodeId) (path : List EdgeId) → IsPathTo tree id path → IsWalk tree.root path id.vertex

-- an edge stands on the path to a node exactly where the node hangs by it, or its parent is below
-- it
abbrev pub BelowGoesByParents : Type 0
BelowGoesByParents = (tree : TreeValue) → IsTree tree →
    (edge : EdgeId) (id : NodeId) (node : Node) → node_of tree id ≡ Some node →
    IsBelow tree edge id ↔ ((node.edge ≡ edge) ⊎ IsBelow tree edge node.parent)

-- ---- values

-- a parent has at least the value of its child, and where it has the same, a lesser stamp
abbrev pub ParentsComeFirst : Type 0
ParentsComeFirst = (tree : TreeValue) → IsTree tree →
    (id : NodeId) (node parent : Node) →
    node_of tree id ≡ Some node → node_of tree node.parent ≡ Some parent →
    (node.value ≤ parent.value) × (node.value ≡ parent.value → parent.stamp < node.stamp)

-- no node stands where the root does
abbrev pub RootHasNoNode : Type 0
RootHasNoNode = (tree : TreeValue) → IsTree tree → node_of tree (root_id tree) ≡ None

-- ---- changes

-- after a put the node is there, and all others are as they were
abbrev pub PutsAreOfOneNode : Type 0
PutsAreOfOneNode = (old new : TreeValue) (id : NodeId) (node : Node) → Puts old new id node →
    (node_of new id ≡ Some node)
    × ((each : NodeId) → id ≢ each → node_of new each ≡ node_of old each)

-- after an expiry exactly the nodes of a value above the clock are there, as they were
abbrev pub ExpiryGoesByValue : Type 0
ExpiryGoesByValue = (old new : TreeValue) (now : ℕ) → Expires old new now →
    (id : NodeId) (node : Node) →
    (node_of new id ≡ Some node) ↔ ((node_of old id ≡ Some node) × (now < node.value))
