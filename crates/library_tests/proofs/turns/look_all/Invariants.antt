use Rattle.std.proofs.Common.{◌≡◌, true, length}
use Rattle.turn_lock.specs.Passes.{IsAtRest}
use Rattle.library_tests.proofs.turns.look_all.Given as goal

abbrev pub invariant-loop : goal.invariant-loop
invariant-loop g l = IsAtRest l.turns l.pass × (l.pass.number ≡ l.fn.pass.number) × (l.rises ≡ true)
    × (length l.pass.seen ≡ l.last)
