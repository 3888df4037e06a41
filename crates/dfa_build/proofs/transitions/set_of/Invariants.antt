use Rattle.std.proofs.Common.{ℕ, take}
use Rattle.std.specs.Prelude.{◌↔◌, Contains, IsTrue}
use Rattle.dfa_build.specs.PositionSet.{has}
use Rattle.dfa_build.proofs.transitions.set_of.Given as goal

-- the set has the positions so far
abbrev pub invariant-loop-place : goal.invariant-loop-place
invariant-loop-place l = (position : ℕ) → IsTrue (has l.set position) ↔ Contains (take l.place-index l.places) position
