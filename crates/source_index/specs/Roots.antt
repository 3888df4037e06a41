-- The roots at one place; no public contract cites these.
use Rattle.std.specs.Prelude.{◌≡◌, ◌⊎◌, ◌↔◌, ℕ, List, Contains}

-- the root is there now, and all others as before
abbrev pub AddsRoot : List ℕ → List ℕ → ℕ → Type 0
AddsRoot old new root = (each : ℕ) → Contains new each ↔ (Contains old each ⊎ (each ≡ root))

-- the root isn't there any more, and all others are as before
abbrev pub DropsRoot : List ℕ → List ℕ → ℕ → Type 0
DropsRoot old new root =
    (each : ℕ) → Contains new each ↔ (Contains old each × (each ≡ root → ⊥))
