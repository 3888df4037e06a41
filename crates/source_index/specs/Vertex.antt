-- The roots at the places of one vertex.
use Rattle.std.specs.Prelude.{◌≡◌, ◌≢◌, ◌⊎◌, ◌↔◌, ◌==◌, ◌<◌, ◌≤◌, ℕ, List, [], length, slice_index_or, slice_set, All, AllPairs, Contains}
use Rattle.std.specs.Map.{lookup}
use Rattle.std.specs.Option.{unwrap_or}

-- the roots that are held for each state of a vertex that has some
abbrev pub RootsByState : Type 0
RootsByState = List (ℕ × List ℕ)

-- the roots at a state
abbrev pub roots_in : RootsByState → ℕ → List ℕ
roots_in places state = unwrap_or (lookup (λ each. state == each) places) []

-- each number is above those before it
abbrev pub IsRising : List ℕ → Type 0
IsRising numbers = AllPairs (λ (first second : ℕ). first < second) numbers

-- ---- no public contract cites these

-- the states rise, and each has some roots, in the same order
pub record IsInStep (states : List ℕ) (many : List (List ℕ)) : Type 0 where
  pub paired : length many ≡ length states
  pub rising : IsRising states
  pub some : All (λ (roots : List ℕ). roots ≢ []) many

-- the state isn't there, and this is the place where it belongs
pub record IsFree (states : List ℕ) (state place : ℕ) : Type 0 where
  pub within : place ≤ length states
  pub before : (each : ℕ) → each < place → slice_index_or states each 0 < state
  pub behind : (each : ℕ) → place ≤ each → each < length states →
      state < slice_index_or states each 0

-- the roots at one place were changed so
pub record Rewrites (old new : List (List ℕ)) (place : ℕ)
    (Changes : List ℕ → List ℕ → Type 0) : Type 0 where
  pub roots : List ℕ
  pub set : new ≡ slice_set old place roots
  pub changes : Changes (slice_index_or old place []) roots

-- the root is held at the state now, and all others as before
abbrev pub AddsAt : RootsByState → RootsByState → ℕ → ℕ → Type 0
AddsAt old new state root = (each other : ℕ) → Contains (roots_in new each) other
    ↔ (Contains (roots_in old each) other ⊎ ((each ≡ state) × (other ≡ root)))

-- the root isn't held at the state any more, and all others are as before
abbrev pub DropsAt : RootsByState → RootsByState → ℕ → ℕ → Type 0
DropsAt old new state root = (each other : ℕ) → Contains (roots_in new each) other
    ↔ (Contains (roots_in old each) other × ((each ≡ state) × (other ≡ root) → ⊥))
