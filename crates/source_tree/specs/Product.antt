-- The product graph of a store of edges and an automaton, as contracts see it.
use Rattle.std.specs.Prelude.{◌≡◌, ◌≢◌, ◌↔◌, ◌<◌, ℕ, List, [], Contains, IsTrue, Option, Some}
use Rattle.edge_store.specs.declared.edge.EdgeId.{EdgeId}
use Rattle.edge_store.specs.Edges.{Edges, value_of as value_in}
use Rattle.dfa_table.specs.DfaValue.{DfaValue, is_final, step_of as step_in}
use Rattle.delta_tree.specs.declared.node.NodeId.{NodeId}
use Rattle.delta_tree.specs.declared.node.Node.{Node}
use Rattle.delta_tree.specs.Nodes.{TreeValue, node_of}
use Rattle.tree_insert.specs.Trees.{IsOptimal}
use Rattle.source_index.specs.Holders.{HoldersValue, roots_at}

-- a store of edges, an automaton, of its final states those with which a node can stand, and the
-- roots of the trees that have a node at a place
pub record ProductValue : Type 0 where
  pub store : Edges
  pub dfa : DfaValue
  pub finals : List ℕ
  pub holders : HoldersValue

-- the product of these
abbrev pub product_of : Edges → DfaValue → List ℕ → HoldersValue → ProductValue
product_of store dfa finals holders =
    record { store = store; dfa = dfa; finals = finals; holders = holders }

-- the values of its edges
abbrev pub values_of : ProductValue → EdgeId → Option ℕ
values_of product = value_in product.store

-- the steps of its automaton
abbrev pub steps_of : ProductValue → ℕ → ℕ → Option ℕ
steps_of product = step_in product.dfa

-- the tree has the best paths of the product
abbrev pub IsOptimalOn : ProductValue → TreeValue → Type 0
IsOptimalOn product tree = IsOptimal (values_of product) (steps_of product) tree

-- these are exactly the final states with which a node can stand
abbrev pub AreFinals : DfaValue → List ℕ → Type 0
AreFinals dfa finals = (state : ℕ) →
    Contains finals state ↔ ((0 < state) × IsTrue (is_final dfa state))

-- each node of the tree is held: some root is, at its place
abbrev pub AreHeld : HoldersValue → TreeValue → Type 0
AreHeld holders tree = (id : NodeId) (node : Node) → node_of tree id ≡ Some node →
    roots_at holders id ≢ []
