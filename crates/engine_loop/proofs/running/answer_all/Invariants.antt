use Rattle.std.proofs.Common.{◌≡◌, ◌-◌, ◌^◌, length, None}
use Rattle.entry_steps.specs.Evaluator.{KeepsSetup}
use Rattle.engine_loop.specs.Loop.{IsAlong, TakesMore}
use Rattle.engine_loop.proofs.running.answer_all.Given as goal

-- the sink took the steps of all that was given so far
abbrev pub invariant-loop : goal.invariant-loop
invariant-loop g l = record {
  home : g.S.EntrySource.home l.source ≡ g.S.EntrySource.home l.fn.source;
  takes : TakesMore g.K.StepSink.takes l.fn.evaluator (g.S.EntrySource.given l.fn.source)
      (g.S.EntrySource.given l.source) None l.fn.sink l.sink;
  along : IsAlong g.S.EntrySource.given g.S.EntrySource.kept g.S.EntrySource.front
      g.S.EntrySource.feeds g.K.StepSink.taken l.source l.evaluator l.sink;
  keeps : KeepsSetup l.fn.evaluator l.evaluator;
}

abbrev pub decreases-loop : goal.decreases-loop
decreases-loop g l = 2 ^ 61 - length (g.S.EntrySource.given l.source)
