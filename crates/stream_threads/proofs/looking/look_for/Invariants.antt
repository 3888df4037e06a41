use Rattle.std.proofs.Common.{◌≡◌}
use Rattle.turn_lock.specs.Lines.{StartsWith}
use Rattle.stream_history.specs.History.{IsPassOf}
use Rattle.stream_threads.proofs.looking.look_for.Given as goal

-- the pass has seen what it had seen, and maybe more
abbrev pub invariant-loop : goal.invariant-loop
invariant-loop g l = record {
  is : IsPassOf l.history l.pass;
  same : l.pass.number ≡ l.initial.pass.number;
  starts : StartsWith l.pass.seen l.initial.pass.seen;
  own : l.pass.mine ≡ l.initial.pass.mine;
}
