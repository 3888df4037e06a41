use Rattle.std.proofs.Common.{◌≡◌, ◌++◌, map, take}
use Rattle.rpq_model.specs.Events.{event, without}
use Rattle.plain_evaluator.proofs.SideBySide.{IsSideBySide}
use Rattle.plain_evaluator.proofs.events.push_events.Given as goal

-- the events of the pairs so far are added
abbrev pub invariant-loop-pair : goal.invariant-loop-pair
invariant-loop-pair l = record {
  side_by_side : IsSideBySide l.pairs l.others l.pair-index l.rest;
  events : l.events.items ≡ l.fn.events.items ++ map (event l.query l.added)
      (without (take l.pair-index l.pairs) l.others);
}
