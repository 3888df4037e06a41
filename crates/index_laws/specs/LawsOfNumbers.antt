-- What stores by numbers are meant to be, as laws.
use Rattle.std.specs.Prelude.{◌≡◌, ◌≢◌, ℕ, ◌↔◌, ◌⊎◌, List, Option, Some, None}
use Rattle.rpq_base.specs.declared.data.Edge.{Edge}
use Rattle.dfa_table.specs.DfaValue.{DfaValue, step_of, place_of}
use Rattle.name_table.specs.Names.{KeepsNumbers}
use Rattle.edge_store.specs.declared.edge.EdgeId.{EdgeId}
use Rattle.edge_store.specs.Edges.{above}
use Rattle.tree_insert.specs.Best.{IsBest}
use Rattle.index_laws.specs.Best.{IsBestAt}
use Rattle.index_laws.specs.Numbered.{HasNumbers, AreNumbersOf, IsByNumbers, IsFree}

-- ---- bests

-- the bests by numbers are those by the names that have the numbers
pub record HaveSameBests (names : List (List ℕ)) (dfa : DfaValue) (store : Edge → Option ℕ)
    (values : EdgeId → Option ℕ) : Type 0 where
  pub named : (from to : List ℕ) (root vertex state : ℕ) (best : Option ℕ) →
      AreNumbersOf names from to root vertex →
      IsBest values (step_of dfa) root vertex state best ↔ IsBestAt store dfa from to state best
  -- from or to a number that no name has there is none
  pub free : (root vertex state : ℕ) (best : Option ℕ) →
      IsFree names root ⊎ IsFree names vertex →
      IsBest values (step_of dfa) root vertex state best → best ≡ None
  -- where two names have a best, both have numbers
  pub numbered : (from to : List ℕ) (state best : ℕ) →
      IsBestAt store dfa from to state (Some best) →
      (root : ℕ) × (vertex : ℕ) × AreNumbersOf names from to root vertex

-- that is so where the values by numbers are those of the store
abbrev pub BestByNumbers : Type 0
BestByNumbers =
    (names : List (List ℕ)) (dfa : DfaValue) (store : Edge → Option ℕ)
    (values : EdgeId → Option ℕ) →
    IsByNumbers names dfa store values → HaveSameBests names dfa store values

-- ---- changes

-- all edges but one have the values that they had
abbrev pub AreOthersKept : Edge → (Edge → Option ℕ) → (Edge → Option ℕ) → Type 0
AreOthersKept edge store stored = (other : Edge) → other ≢ edge → stored other ≡ store other

-- the changes of a store and of values after which the values are still those of the store
pub record StayByNumbers (names : List (List ℕ)) (dfa : DfaValue) (store : Edge → Option ℕ)
    (values : EdgeId → Option ℕ) : Type 0 where
  -- the values that a clock reaches leave both
  pub expire : (stored : Edge → Option ℕ) (valued : EdgeId → Option ℕ) (now : ℕ) →
      ((edge : Edge) → stored edge ≡ above now (store edge)) →
      ((id : EdgeId) → valued id ≡ above now (values id)) →
      IsByNumbers names dfa stored valued
  -- an edge gets another value, and its numbers the same
  pub change : (stored : Edge → Option ℕ) (valued : EdgeId → Option ℕ) (edge : Edge)
      (id : EdgeId) →
      HasNumbers names dfa edge id → valued id ≡ stored edge → AreOthersKept edge store stored →
      ((other : EdgeId) → other ≢ id → valued other ≡ values other) →
      IsByNumbers names dfa stored valued
  -- an edge gets another value whose label the automaton lacks
  pub foreign : (stored : Edge → Option ℕ) (edge : Edge) →
      place_of dfa edge.label ≡ None → AreOthersKept edge store stored →
      IsByNumbers names dfa stored values
  -- an edge without numbers leaves the store
  pub absent : (stored : Edge → Option ℕ) (edge : Edge) →
      ((id : EdgeId) → HasNumbers names dfa edge id → ⊥) → stored edge ≡ None →
      AreOthersKept edge store stored → IsByNumbers names dfa stored values
  -- more names get numbers
  pub more_names : (more : List (List ℕ)) →
      KeepsNumbers names more → IsByNumbers more dfa store values

-- the values are those of the store where nothing has a value, and after these changes
pub record ByNumbersSteps : Type 0 where
  pub nothing : (names : List (List ℕ)) (dfa : DfaValue) (store : Edge → Option ℕ)
      (values : EdgeId → Option ℕ) →
      ((edge : Edge) → store edge ≡ None) → ((id : EdgeId) → values id ≡ None) →
      IsByNumbers names dfa store values
  pub steps : (names : List (List ℕ)) (dfa : DfaValue) (store : Edge → Option ℕ)
      (values : EdgeId → Option ℕ) →
      IsByNumbers names dfa store values → StayByNumbers names dfa store values
