use Rattle.std.proofs.Common.{◌≡◌}
use Rattle.history_model.specs.Lines.{published}
use Rattle.stream_history.specs.History.{IsFeedingPass}
use Rattle.library_tests.proofs.history.publish_to_the_end.Given as goal

abbrev pub invariant-loop : goal.invariant-loop
invariant-loop g l = IsFeedingPass l.history l.pass × (published l.pass.mine ≡ l.count)
