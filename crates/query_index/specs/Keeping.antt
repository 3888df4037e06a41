-- What an entry leaves in a forest as it was.
use Rattle.std.specs.Prelude.{◌≡◌, ℕ, List, Some}
use Rattle.rpq_base.specs.declared.data.Edge.{Edge}
use Rattle.rpq_base.specs.declared.data.Act.{Act}
use Rattle.rpq_base.specs.declared.data.Act.TheVariants.{Delete}
use Rattle.dfa_table.specs.DfaValue.{DfaValue}
use Rattle.edge_store.specs.declared.edge.EdgeId.{EdgeId}
use Rattle.delta_tree.specs.declared.node.NodeId.{NodeId}
use Rattle.delta_tree.specs.declared.node.Node.{Node}
use Rattle.delta_tree.specs.Nodes.{TreeValue, node_of}
use Rattle.delta_tree.specs.Paths.{IsBelow}
use Rattle.delta_forest.specs.Forest.{ForestValue, tree_of}
use Rattle.index_laws.specs.Numbered.{HasNumbers}

-- the act deletes an edge that stood on the path to this place
pub record IsCutOff (act : Act) (names : List (List ℕ)) (dfa : DfaValue) (tree : TreeValue)
    (id : NodeId) : Type 0 where
  pub edge : Edge
  pub number : EdgeId
  pub deletes : act ≡ Delete edge
  pub numbers : HasNumbers names dfa edge number
  pub below : IsBelow tree number id

-- a node that stood before, with the value that it has afterwards, is as it was, with its parent
-- node, its parent edge and its stamp, where the act doesn't delete an edge on the path to it
pub record KeepsTree (act : Act) (names : List (List ℕ)) (dfa : DfaValue)
    (old new : TreeValue) : Type 0 where
  pub nodes : (id : NodeId) (before after : Node) →
      node_of old id ≡ Some before → node_of new id ≡ Some after → before.value ≡ after.value →
      (IsCutOff act names dfa old id → ⊥) → after ≡ before

-- that is so in each tree with a root that had one before
pub record KeepsForest (act : Act) (names : List (List ℕ)) (old new : ForestValue)
    : Type 0 where
  pub trees : (root : ℕ) (before after : TreeValue) →
      tree_of old root ≡ Some before → tree_of new root ≡ Some after →
      KeepsTree act names old.dfa before after
