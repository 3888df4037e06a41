use Rattle.std.proofs.Common.{◌≡◌}
use Rattle.stream_history.specs.History.{IsOpenPass}
use Rattle.library_tests.proofs.history.write_all.Given as goal

abbrev pub invariant-loop-time : goal.invariant-loop-time
invariant-loop-time g l =
    IsOpenPass l.history l.pass × (l.pass.number ≡ l.initial.pass.number)
