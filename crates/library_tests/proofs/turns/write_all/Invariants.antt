use Rattle.std.proofs.Common.{◌≡◌}
use Rattle.turn_lock.specs.Passes.{IsAtRest}
use Rattle.library_tests.proofs.turns.write_all.Given as goal

abbrev pub invariant-loop-mark : goal.invariant-loop-mark
invariant-loop-mark g l = IsAtRest l.turns l.pass × (l.pass.number ≡ l.by)
