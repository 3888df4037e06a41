use Rattle.std.proofs.Common.{ℕ}
use Rattle.std.specs.Prelude.{◌↔◌, IsTrue}
use Rattle.dfa_build.specs.PositionSet.{has}
use Rattle.dfa_build.proofs.Filling.{LedTo}
use Rattle.dfa_build.proofs.state_sets.after.Given as goal

-- what the members so far lead to
abbrev pub invariant-loop-place : goal.invariant-loop-place
invariant-loop-place l = (next : ℕ) → IsTrue (has l.reach next) ↔ LedTo l.follow l.set l.place next
