-- Counts of faults, which never fall and stop at the greatest number of 64 bits.
use Rattle.std.specs.Prelude.{◌≡◌, ◌≢◌, ℕ, ◌+◌, ◌-◌, ◌^◌, ◌<◌, ◌≤◌, min, List, ◌⊎◌}

-- a count rose in a call where it is greater at its end than at its start, or stands at its limit
-- there
abbrev pub Rose : ℕ → ℕ → Type 0
Rose before after = (before < after) ⊎ (2 ^ 64 - 1 ≤ after)

-- the count rose where the call met this fault, and stays where it didn't; it never falls
pub record CountsFault (fault : Type 0) (before after : ℕ) : Type 0 where
  pub never_falls : before ≤ after
  pub rose : fault → Rose before after
  pub quiet : (fault → ⊥) → after ≡ before

-- the same of the counts of names, in a call that opens one of them: no other name's count changes
pub record CountsOpening (fault : Type 0) (name : List ℕ) (before after : List ℕ → ℕ) : Type 0 where
  pub never_fall : (any : List ℕ) → before any ≤ after any
  pub rose : fault → Rose (before name) (after name)
  pub quiet : (fault → ⊥) → (any : List ℕ) → after any ≡ before any
  pub others : (other : List ℕ) → other ≢ name → after other ≡ before other

-- a count one higher, up to its limit
abbrev pub raised : ℕ → ℕ
raised count = min (count + 1) (2 ^ 64 - 1)
