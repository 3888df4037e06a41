-- Paths that show answers.
use Rattle.std.specs.Prelude.{◌≡◌, ℕ, ◌<◌, ◌≤◌, nat_lt, cond, List, ◌∷◌, ◌++◌, [], length, Option, None, Some, IsTrue}
use Rattle.std.specs.Global.{Global}
use Rattle.std.specs.declared.vec.Vec.{Vec}
use Rattle.rpq_base.specs.declared.data.Edge.{Edge}
use Rattle.rpq_base.specs.declared.data.Entry.{Entry}
use Rattle.rpq_base.specs.declared.data.Pair.{Pair}
use Rattle.dfa_table.specs.DfaValue.{DfaValue, is_final}
use Rattle.rpq_model.specs.Answers.{IsAnswer}
use Rattle.rpq_model.specs.Query.{Query, path_query}
use Rattle.edge_store.specs.declared.edge.EdgeId.{EdgeId}
use Rattle.edge_store.specs.Edges.{value_of}
use Rattle.delta_forest.specs.Forest.{ForestValue, IsEnd, kept}
use Rattle.delta_forest.specs.Paths.{IsBestPath}
use Rattle.index_laws.specs.Numbered.{HasNumbers}
use Rattle.index_laws.specs.LawsOfPaths.{HaveNumbers, IsBestPathOf}

-- none where the pair is no answer over the history, and else a path that shows it
abbrev pub ShowsPair : Query → List Entry → Pair → Option (Vec Edge Global) → Type 0
ShowsPair query history pair None = IsAnswer (path_query query) history pair → ⊥
ShowsPair query history pair (Some path) = IsBestPathOf query history pair path.items

-- ---- by numbers; no public contract cites what follows

-- each edge of the store is one by names
abbrev pub HaveEdges : List (List ℕ) → ForestValue → Type 0
HaveEdges names forest = (id : EdgeId) (value : ℕ) → value_of forest.store id ≡ Some value →
    (edge : Edge) × HasNumbers names forest.dfa edge id

-- the numbers are those of names and of a label
pub record AreKnown (names : List (List ℕ)) (dfa : DfaValue) (id : EdgeId) : Type 0 where
  pub from : id.from < length names
  pub label : id.label < length dfa.labels
  pub to : id.to < length names

-- the path has one edge more, which has these numbers
abbrev pub AddsEdge : List (List ℕ) → DfaValue → EdgeId → List Edge → List Edge → Type 0
AddsEdge names dfa id old new =
    (edge : Edge) × (new ≡ old ++ edge ∷ []) × HasNumbers names dfa edge id

-- what is kept for a final state, and none for another
abbrev pub final_value : ForestValue → ℕ → ℕ → ℕ → Option ℕ
final_value forest root vertex state =
    cond (is_final forest.dfa state) (kept forest root vertex state) None

-- of a state with its value and another with a value that may be there, the one with the greater
abbrev pub better : Option (ℕ × ℕ) → ℕ → Option ℕ → Option (ℕ × ℕ)
better best state None = best
better None state (Some value) = Some (state, value)
better (Some (other, most)) state (Some value) =
    cond (nat_lt most value) (Some (state, value)) (Some (other, most))

-- of the final states below a number, one with the greatest value, and this; none where none of
-- them has a value
pub record IsBestBelow (forest : ForestValue) (root vertex count : ℕ) (best : Option (ℕ × ℕ))
    : Type 0 where
  pub is : (state value : ℕ) → best ≡ Some (state, value) →
      final_value forest root vertex state ≡ Some value
  pub most : (state value : ℕ) → state < count → final_value forest root vertex state ≡ Some value →
      (other : ℕ) × (greatest : ℕ) × (best ≡ Some (other, greatest)) × (value ≤ greatest)

-- the state is final, and what is kept for it is the end of the vertex
pub record IsBestState (forest : ForestValue) (root vertex state : ℕ) : Type 0 where
  pub final : IsTrue (is_final forest.dfa state)
  pub until : ℕ
  pub kept_is : kept forest root vertex state ≡ Some until
  pub end : IsEnd forest root vertex (Some until)

-- by names, a best path of the forest to such a state
pub record IsEndPath (names : List (List ℕ)) (forest : ForestValue) (root vertex : ℕ)
    (path : List Edge) : Type 0 where
  pub state : ℕ
  pub best : IsBestState forest root vertex state
  pub ids : List EdgeId
  pub numbers : HaveNumbers names forest.dfa path ids
  pub is_path : IsBestPath forest root vertex state ids

-- none where the vertex has no end, and else such a path
abbrev pub ShowsEnd : List (List ℕ) → ForestValue → ℕ → ℕ → Option (Vec Edge Global) → Type 0
ShowsEnd names forest root vertex None = IsEnd forest root vertex None
ShowsEnd names forest root vertex (Some path) = IsEndPath names forest root vertex path.items
