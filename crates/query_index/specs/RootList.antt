-- Roots in a list, with a flag for each number that says whether it is one of them; no public
-- contract cites these.
use Rattle.std.specs.Prelude.{◌≡◌, ◌↔◌, ◌⊎◌, ℕ, Bool, true, false, List, nat_eq, Contains, slice_index_or}
use Rattle.std.specs.List.{IsDistinct}

-- whether the flag of the root is set
abbrev pub flag_of : List Bool → ℕ → Bool
flag_of flags root = slice_index_or flags root false

-- the roots are exactly those whose flags are set, each once
pub record AreFlagged (roots : List ℕ) (flags : List Bool) : Type 0 where
  pub exact : (root : ℕ) → Contains roots root ↔ (flag_of flags root ≡ true)
  pub once : IsDistinct nat_eq roots

-- each root's flag is as it was
abbrev pub SameFlags : List Bool → List Bool → Type 0
SameFlags old new = (root : ℕ) → flag_of new root ≡ flag_of old root

-- this root is there now, and those that were
abbrev pub AddsRoot : List ℕ → ℕ → List ℕ → Type 0
AddsRoot old root new = (each : ℕ) → Contains new each ↔ (Contains old each ⊎ (root ≡ each))
