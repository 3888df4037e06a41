use Rattle.std.proofs.Common.{◌≤◌}
use Rattle.stream_history.specs.History.{IsOpenPass}
use Rattle.library_tests.proofs.room.write_in_room.Given as goal

abbrev pub invariant-loop-time : goal.invariant-loop-time
invariant-loop-time g l = IsOpenPass l.history l.pass × (l.done ≤ l.time)
