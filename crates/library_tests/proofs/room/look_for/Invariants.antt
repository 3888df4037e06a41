use Rattle.std.proofs.Common.{◌≤◌, length}
use Rattle.history_model.specs.Lines.{entries}
use Rattle.stream_history.specs.History.{IsFeedingPass}
use Rattle.library_tests.proofs.room.look_for.Given as goal

abbrev pub invariant-loop : goal.invariant-loop
invariant-loop g l = IsFeedingPass l.history l.pass × (l.seen ≤ length (entries l.pass.seen))
