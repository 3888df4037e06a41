-- A forest as contracts see it: an automaton, a store of edges with values, and trees.
use Rattle.std.specs.Prelude.{◌≡◌, ◌≢◌, ◌==◌, ℕ, Bool, List, [], map, find, All, IsTrue, IsSome, Option, Some}
use Rattle.std.specs.Option.{option_and_then}
use Rattle.std.specs.List.{IsDistinct}
use Rattle.edge_store.specs.declared.edge.EdgeId.{EdgeId}
use Rattle.edge_store.specs.Edges.{Edges, value_of as value_in}
use Rattle.dfa_table.specs.DfaValue.{DfaValue, is_final, step_of}
use Rattle.delta_tree.specs.Nodes.{TreeValue, node_id, value_of}
use Rattle.tree_insert.specs.Best.{IsGreatestOf}
use Rattle.tree_insert.specs.Trees.{IsOptimal}
use Rattle.source_tree.specs.declared.change.EndChange.{EndChange}

-- an automaton; a store of edges; the trees over it; the number of changes; whether memory ran out;
-- and of the last change the roots whose trees it touched, and the ends that came or went
pub record ForestValue : Type 0 where
  pub dfa : DfaValue
  pub store : Edges
  pub trees : List TreeValue
  pub calls : ℕ
  pub broken : Bool
  pub touched : List ℕ
  pub log : List EndChange

-- the tree with this root, or none where there is none
abbrev pub tree_in : List TreeValue → ℕ → Option TreeValue
tree_in trees root = find (λ (tree : TreeValue). tree.root == root) trees

abbrev pub tree_of : ForestValue → ℕ → Option TreeValue
tree_of forest root = tree_in forest.trees root

-- the value of a vertex and a state in the tree of a root, or none where there is no such node
abbrev pub kept : ForestValue → ℕ → ℕ → ℕ → Option ℕ
kept forest root vertex state =
    option_and_then (λ (tree : TreeValue). value_of tree (node_id vertex state))
    (tree_of forest root)

-- the number is the value of the vertex with one of the final states
abbrev pub IsFinalValue : ForestValue → ℕ → ℕ → ℕ → Type 0
IsFinalValue forest root vertex number = (state : ℕ)
    × IsTrue (is_final forest.dfa state) × (kept forest root vertex state ≡ Some number)

-- the end of a vertex, as seen from a root: the greatest of these, or none
abbrev pub IsEnd : ForestValue → ℕ → ℕ → Option ℕ → Type 0
IsEnd forest root vertex end = IsGreatestOf (IsFinalValue forest root vertex) end

-- each tree is optimal for the store; the roots that have one, each one, are the sources of the
-- edges by which the automaton leaves its start
pub record IsIndexed (forest : ForestValue) : Type 0 where
  pub optimal : All (IsOptimal (value_in forest.store) (step_of forest.dfa)) forest.trees
  pub apart : IsDistinct (λ (first second : ℕ). first == second)
      (map (λ (tree : TreeValue). tree.root) forest.trees)
  pub sources : (edge : EdgeId) (value state : ℕ) →
      value_in forest.store edge ≡ Some value → step_of forest.dfa 0 edge.label ≡ Some state →
      IsSome (tree_of forest edge.from)
  pub some : All (λ (tree : TreeValue). tree.nodes ≢ []) forest.trees
