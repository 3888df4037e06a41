-- The best of a vertex and a state: the greatest number that all values of some path to them reach.
use Rattle.std.specs.Prelude.{◌≡◌, ◌≢◌, ℕ, ◌≤◌, List, [], ◌∷◌, All, Any, Option, Some, None}
use Rattle.edge_store.specs.declared.edge.EdgeId.{EdgeId}

-- there is a value, and it is at least the number
abbrev pub IsAtLeast : ℕ → Option ℕ → Type 0
IsAtLeast number None = ⊥
IsAtLeast number (Some value) = number ≤ value

-- the edges of a path, the last one first, lead from the root and the state 0 to the vertex and the
-- state
abbrev pub IsRoute : (ℕ → ℕ → Option ℕ) → ℕ → List EdgeId → ℕ → ℕ → Type 0
IsRoute step root [] vertex state = (vertex ≡ root) × (state ≡ 0)
IsRoute step root (edge ∷ path) vertex state =
    (edge.to ≡ vertex)
    × ((before : ℕ) × IsRoute step root path edge.from before ×
    (step before edge.label ≡ Some state))

-- a path of at least one edge that leads there, each edge of which has a value that is at least the
-- number
pub record IsWay (values : EdgeId → Option ℕ) (step : ℕ → ℕ → Option ℕ)
    (root vertex state number : ℕ) (path : List EdgeId) : Type 0 where
  pub some : path ≢ []
  pub leads : IsRoute step root path vertex state
  pub least : All (λ edge. IsAtLeast number (values edge)) path

-- the number is of the kind, and no greater one is
pub record IsGreatest (kind : ℕ → Type 0) (number : ℕ) : Type 0 where
  pub is : kind number
  pub most : (other : ℕ) → kind other → other ≤ number

-- the greatest number of the kind, or none where no number is of it
abbrev pub IsGreatestOf : (ℕ → Type 0) → Option ℕ → Type 0
IsGreatestOf kind None = (number : ℕ) → kind number → ⊥
IsGreatestOf kind (Some number) = IsGreatest kind number

-- the greatest number that all values of some path reach, or none where no path leads there
abbrev pub IsBest : (EdgeId → Option ℕ) → (ℕ → ℕ → Option ℕ) → ℕ → ℕ → ℕ → Option ℕ → Type 0
IsBest values step root vertex state best =
    IsGreatestOf (λ number. (path : List EdgeId) × IsWay values step root vertex state number path)
    best

-- the least value of the edges of a path: one of them has it, and none has a lower one
pub record IsLeast (values : EdgeId → Option ℕ) (path : List EdgeId) (number : ℕ) : Type 0 where
  pub met : Any (λ edge. values edge ≡ Some number) path
  pub least : All (λ edge. IsAtLeast number (values edge)) path
