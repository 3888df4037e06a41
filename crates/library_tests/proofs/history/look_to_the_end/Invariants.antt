use Rattle.std.proofs.Common.{◌≡◌}
use Rattle.stream_history.specs.History.{IsPassOf}
use Rattle.library_tests.proofs.history.look_to_the_end.Given as goal

abbrev pub invariant-loop : goal.invariant-loop
invariant-loop g l = IsPassOf l.history l.pass × (l.pass.number ≡ l.initial.pass.number)
