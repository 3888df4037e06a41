-- The best of two vertices: the greatest number that all values of some path between them reach.
-- Source: the trees over vertices and states of Pacaci, Bonifati and Özsu, SIGMOD 2020, here over
-- values that are deadlines.
use Rattle.std.specs.Prelude.{◌≢◌, ℕ, List, [], All, Option}
use Rattle.rpq_base.specs.declared.data.Label.{Label}
use Rattle.rpq_base.specs.declared.data.Edge.{Edge}
use Rattle.dfa_table.specs.DfaValue.{DfaValue}
use Rattle.dfa_table.specs.Runs.{LeadsTo}
use Rattle.rpq_model.specs.Path.{Leads, word_of}
use Rattle.tree_insert.specs.Best.{IsAtLeast, IsGreatestOf}

-- a path from one vertex to another, each edge of which has a value in the store that is at least
-- the number
pub record IsWayBetween (store : Edge → Option ℕ) (from to : List ℕ) (number : ℕ)
    (path : List Edge) : Type 0 where
  pub some : path ≢ []
  pub leads : Leads from path to
  pub least : All (λ edge. IsAtLeast number (store edge)) path

-- there is such a path whose word is in the language
abbrev pub HasWay : (Edge → Option ℕ) → (List Label → Type 0) → List ℕ → List ℕ → ℕ → Type 0
HasWay store language from to number =
    (path : List Edge) × IsWayBetween store from to number path × language (word_of path)

-- the greatest number for which there is one, or none where no such path is at all
abbrev pub IsBestFor : (Edge → Option ℕ) → (List Label → Type 0) → List ℕ → List ℕ → Option ℕ →
    Type 0
IsBestFor store language from to best = IsGreatestOf (HasWay store language from to) best

-- the same of the words that lead the automaton from its start to the state
abbrev pub IsBestAt : (Edge → Option ℕ) → DfaValue → List ℕ → List ℕ → ℕ → Option ℕ → Type 0
IsBestAt store dfa from to state best = IsBestFor store (LeadsTo dfa state) from to best
