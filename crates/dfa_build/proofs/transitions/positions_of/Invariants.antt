use Rattle.std.proofs.Common.{ℕ}
use Rattle.std.specs.Prelude.{◌↔◌, IsTrue}
use Rattle.dfa_build.specs.PositionSet.{has}
use Rattle.dfa_build.proofs.Filling.{HaveLabel}
use Rattle.dfa_build.proofs.transitions.positions_of.Given as goal

-- the set has the positions so far that have the label
abbrev pub invariant-loop-place : goal.invariant-loop-place
invariant-loop-place l = (position : ℕ) → IsTrue (has l.set position) ↔ HaveLabel l.atoms l.label l.place position
