use Rattle.std.proofs.Common.{◌≡◌}
use Rattle.stream_history.specs.History.{IsOpenPass}
use Rattle.library_tests.proofs.history.sleep_until_published.Given as goal

abbrev pub invariant-loop : goal.invariant-loop
invariant-loop g l = IsOpenPass l.history l.pass × (l.pass.number ≡ l.initial.pass.number)
