use Rattle.std.proofs.Common.{◌≤◌, ◌-◌}
use Rattle.entry_steps.specs.Evaluator.{IsFedOver, OnlyFeeds}
use Rattle.engine_loop.specs.Loop.{answered}
use Rattle.engine_loop.specs.Sources.{StaysAs}
use Rattle.engine_loop.proofs.rebuilding.rebuild.Given as goal

-- the engine stands for the entries that it got so far, which aren't more than are kept
abbrev pub invariant-loop-source : goal.invariant-loop-source
invariant-loop-source g l = record {
  stays : StaysAs g.S.EntrySource.home g.S.EntrySource.given g.S.EntrySource.kept
      g.S.EntrySource.front g.S.EntrySource.feeds l.fn.source l.source;
  fed : IsFedOver l.evaluator (answered l.evaluator (g.S.EntrySource.kept l.fn.source));
  within : l.evaluator.position ≤ l.kept;
  keeps : OnlyFeeds l.fn.evaluator l.evaluator;
}

abbrev pub decreases-loop-source : goal.decreases-loop-source
decreases-loop-source g l = l.kept - l.evaluator.position
