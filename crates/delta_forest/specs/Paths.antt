-- The best paths of a forest, each from its first edge to its last.
use Rattle.std.specs.Prelude.{◌≡◌, ◌≢◌, ℕ, List, [], map, Some}
use Rattle.edge_store.specs.declared.edge.EdgeId.{EdgeId}
use Rattle.edge_store.specs.Edges.{value_of as value_in}
use Rattle.dfa_table.specs.DfaValue.{DfaValue}
use Rattle.dfa_table.specs.Runs.{walk}
use Rattle.delta_tree.specs.Laws.{IsWalk}
use Rattle.tree_insert.specs.Best.{IsLeast}
use Rattle.delta_forest.specs.Forest.{ForestValue, kept}

-- the numbers of the labels of a path, in order
abbrev pub labels_of : List EdgeId → List ℕ
labels_of path = map (λ (edge : EdgeId). edge.label) path

-- the edges go on from the root to the vertex, and lead the automaton from its start to the state
pub record GoesForwards (dfa : DfaValue) (root : ℕ) (path : List EdgeId) (vertex state : ℕ)
    : Type 0 where
  pub walk_is : IsWalk root path vertex
  pub run_is : walk dfa 0 (labels_of path) ≡ Some state

-- a path of at least one edge that does so; its edges are all in the store, and the least of their
-- values is what is kept for the root, the vertex and the state
pub record IsBestPath (forest : ForestValue) (root vertex state : ℕ) (path : List EdgeId)
    : Type 0 where
  pub some : path ≢ []
  pub leads : GoesForwards forest.dfa root path vertex state
  pub value : ℕ
  pub best : kept forest root vertex state ≡ Some value
  pub least : IsLeast (value_in forest.store) path value
