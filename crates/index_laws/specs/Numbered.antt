-- Stores by numbers: those of vertices are the places of their names, and those of labels their
-- places in an automaton.
use Rattle.std.specs.Prelude.{◌≡◌, ℕ, List, Option, Some}
use Rattle.rpq_base.specs.declared.data.Edge.{Edge}
use Rattle.dfa_table.specs.DfaValue.{DfaValue, place_of}
use Rattle.name_table.specs.Names.{number_of}
use Rattle.edge_store.specs.declared.edge.EdgeId.{EdgeId}

-- the edge has these numbers: those of its vertices and that of its label
pub record HasNumbers (names : List (List ℕ)) (dfa : DfaValue) (edge : Edge)
    (id : EdgeId) : Type 0 where
  pub from : number_of names edge.from ≡ Some id.from
  pub label : place_of dfa edge.label ≡ Some id.label
  pub to : number_of names edge.to ≡ Some id.to

-- the values by numbers are those of the store: an edge has the value of its numbers, numbers with
-- a value are those of an edge, and an edge with a value and a label of the automaton has numbers
pub record IsByNumbers (names : List (List ℕ)) (dfa : DfaValue) (store : Edge → Option ℕ)
    (values : EdgeId → Option ℕ) : Type 0 where
  pub same : (edge : Edge) (id : EdgeId) → HasNumbers names dfa edge id → values id ≡ store edge
  pub edges : (id : EdgeId) (value : ℕ) → values id ≡ Some value →
      (edge : Edge) × HasNumbers names dfa edge id
  pub numbers : (edge : Edge) (value label : ℕ) →
      store edge ≡ Some value → place_of dfa edge.label ≡ Some label →
      (id : EdgeId) × HasNumbers names dfa edge id

-- these are the numbers of two names
abbrev pub AreNumbersOf : List (List ℕ) → List ℕ → List ℕ → ℕ → ℕ → Type 0
AreNumbersOf names from to root vertex =
    (number_of names from ≡ Some root) × (number_of names to ≡ Some vertex)

-- no name has the number
abbrev pub IsFree : List (List ℕ) → ℕ → Type 0
IsFree names number = (name : List ℕ) → number_of names name ≡ Some number → ⊥
