-- Numbers of vertices and states that no edge can raise.
use Rattle.std.specs.Prelude.{◌≡◌, ℕ, min, List, Option, Some}
use Rattle.edge_store.specs.declared.edge.EdgeId.{EdgeId}
use Rattle.tree_insert.specs.Best.{IsAtLeast, IsWay}

-- each number is that of a path
abbrev pub HaveWays : (EdgeId → Option ℕ) → (ℕ → ℕ → Option ℕ) → ℕ → (ℕ → ℕ → Option ℕ) → Type 0
HaveWays values step root numbers =
    (vertex state number : ℕ) → numbers vertex state ≡ Some number →
    (path : List EdgeId) × IsWay values step root vertex state number path

-- no edge can raise the number of its target: one from the root in state 0 by its value, and one
-- from a vertex and a state with a number by the less of this number and its value
pub record AreSettled (values : EdgeId → Option ℕ) (step : ℕ → ℕ → Option ℕ) (root : ℕ)
    (numbers : ℕ → ℕ → Option ℕ) : Type 0 where
  pub first : (edge : EdgeId) (value state : ℕ) →
      values edge ≡ Some value → edge.from ≡ root → step 0 edge.label ≡ Some state →
      IsAtLeast value (numbers edge.to state)
  pub onward : (edge : EdgeId) (value before number state : ℕ) →
      values edge ≡ Some value → numbers edge.from before ≡ Some number →
      step before edge.label ≡ Some state →
      IsAtLeast (min number value) (numbers edge.to state)
