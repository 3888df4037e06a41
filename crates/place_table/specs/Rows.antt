-- The states of a vertex in their order.
use Rattle.std.specs.Prelude.{◌≤◌, ◌<◌, ℕ, List, length, get_or}

-- the state at a place
abbrev pub state_in : List (ℕ × ℕ) → ℕ → ℕ
state_in row place = (get_or row place (0, 0)).0

-- each state is less than those after it
abbrev pub AreRising : List (ℕ × ℕ) → Type 0
AreRising row =
    (low high : ℕ) → low < high → high < length row → state_in row low < state_in row high

-- the states before the place are below this one, and the others aren't
pub record IsSplit (row : List (ℕ × ℕ)) (state place : ℕ) : Type 0 where
  pub within : place ≤ length row
  pub below : (each : ℕ) → each < place → state_in row each < state
  pub rest : (each : ℕ) → place ≤ each → each < length row → state ≤ state_in row each
