-- What it means that forests are kept through entries, as a law.
use Rattle.std.specs.Prelude.{◌≡◌, ℕ, List, [], ◌∷◌, ◌++◌, All, Some, slice_get}
use Rattle.rpq_base.specs.declared.data.Edge.{Edge}
use Rattle.rpq_base.specs.declared.data.Act.TheVariants.{Delete}
use Rattle.rpq_base.specs.declared.data.Entry.{Entry}
use Rattle.delta_tree.specs.declared.node.Node.{Node}
use Rattle.delta_tree.specs.declared.node.NodeId.{NodeId}
use Rattle.delta_tree.specs.Nodes.{TreeValue, node_of}
use Rattle.delta_forest.specs.Forest.{ForestValue, kept, tree_of}
use Rattle.query_file.specs.Compiled.{CompiledValue}
use Rattle.query_index.specs.Index.{IsForestFor}
use Rattle.path_engine.specs.Keeping.{KeepForestsThrough}

-- the entry deletes no edge
abbrev pub DeletesNone : Entry → Type 0
DeletesNone entry = (edge : Edge) → entry.tuple.act ≡ Delete edge → ⊥

-- after each of the entries behind the history the value at this place is this one
abbrev pub HasValueAt : List Entry → CompiledValue → List (List ℕ) → List Entry → ℕ → NodeId → ℕ →
    Type 0
HasValueAt [] query names history root id value = Unit {0}
HasValueAt (entry ∷ entries) query names history root id value =
    ((forest : ForestValue) → IsForestFor query (history ++ entry ∷ []) names forest →
    kept forest root id.vertex id.state ≡ Some value)
    × HasValueAt entries query names (history ++ entry ∷ []) root id value

-- the forest has this node in the tree of the root
pub record HasNode (forest : ForestValue) (root : ℕ) (id : NodeId) (node : Node) : Type 0 where
  pub tree : TreeValue
  pub tree_is : tree_of forest root ≡ Some tree
  pub node_is : node_of tree id ≡ Some node

-- where forests are kept through entries that delete no edge, a node that has the same value after
-- each of them is the same node afterwards, with its parent and its stamp
abbrev pub NodesStay : Type 0
NodesStay =
    (entries : List Entry) (queries : List CompiledValue) (names : List (List ℕ))
    (history : List Entry) (olds news : List ForestValue) →
    KeepForestsThrough entries queries names history olds news → All DeletesNone entries →
    (number : ℕ) (query : CompiledValue) (old : ForestValue) →
    slice_get queries number ≡ Some query → slice_get olds number ≡ Some old →
    (root : ℕ) (id : NodeId) (node : Node) → HasNode old root id node →
    HasValueAt entries query names history root id node.value →
    (new : ForestValue) × (slice_get news number ≡ Some new) × HasNode new root id node
