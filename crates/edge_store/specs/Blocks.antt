-- Bounds on the values at the places of a list, one for each block of 32 places.
use Rattle.std.specs.Prelude.{◌≡◌, ℕ, ◌+◌, ◌*◌, ◌/◌, ◌<◌, ◌≤◌, max, List, length, slice_index}

-- no value is above the bound of its block
abbrev pub AreBelow : List ℕ → List ℕ → Type 0
AreBelow values bounds = (place : ℕ) → place < length values →
    slice_index values place ≤ slice_index bounds (place / 32)

-- each block has one bound, and no value is above that of its block
pub record AreBounds (values bounds : List ℕ) : Type 0 where
  pub enough : length values ≤ 32 * length bounds
  pub needed : 32 * length bounds < length values + 32
  pub below : AreBelow values bounds

-- the bound of the block, which may be a new one behind the others, is at least the value now, and
-- no bound is lower than it was
pub record RaisesBound (old new : List ℕ) (block value : ℕ) : Type 0 where
  pub len : length new ≡ max (length old) (block + 1)
  pub raised : value ≤ slice_index new block
  pub kept : (each : ℕ) → slice_index old each ≤ slice_index new each
