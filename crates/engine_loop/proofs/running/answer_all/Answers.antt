use Rattle.std.proofs.Common.{Option, Some, None, refl, ◌∙◌}
use Rattle.history_model.specs.declared.line.Why.{Why}
use Rattle.engine_loop.specs.Loop.{TakesMore}
use Rattle.engine_loop.proofs.Taking.{takes_none, takes_on, setup_then, handed_fault}
use Rattle.engine_loop.proofs.running.answer_all.Goals as goal

pub loop-init : goal.loop-init
loop-init g c = record {
  home = refl;
  takes = takes_none g.K.StepSink.taken g.K.StepSink.takes c.goes_on.ensures
      c.args.evaluator.now (g.S.EntrySource.given c.args.source.now) c.args.sink.now;
  along = c.requires;
  keeps = record { queries = refl; options = refl; workers = refl };
}

pub loop-preserved : goal.loop-preserved
loop-preserved g c =
    let was = c.loop.invariant in
    let given = g.S.EntrySource.given in
    let did = c.in_ok-turn.ensures in
    record {
      home = did.home ∙ was.home;
      takes = takes_on g.K.StepSink.taken g.K.StepSink.takes c.goes_on.ensures
          c.args.evaluator.now c.loop.evaluator was.keeps (given c.args.source.now)
          (given c.loop.source) (given c.turn.new.source) None c.args.sink.now c.loop.sink
          c.turn.new.sink was.takes did.takes;
      along = did.along;
      keeps = setup_then c.args.evaluator.now c.loop.evaluator c.turn.new.evaluator was.keeps
          did.keeps;
    }

pub returns-in_err-turn-clause-takes : goal.returns-in_err-turn-clause-takes
returns-in_err-turn-clause-takes g c =
    let was = c.loop.invariant in
    let given = g.S.EntrySource.given in
    let fault = c.in_err-turn.field-0.0 in
    handed_fault c.from_residual.result fault
    (λ (why : Option Why). TakesMore g.K.StepSink.takes c.args.evaluator.now
    (given c.args.source.now) (given c.turn.new.source) why c.args.sink.now c.turn.new.sink)
    c.from_residual.ensures.1
    (takes_on g.K.StepSink.taken g.K.StepSink.takes c.goes_on.ensures c.args.evaluator.now
    c.loop.evaluator was.keeps (given c.args.source.now) (given c.loop.source)
    (given c.turn.new.source) (Some fault) c.args.sink.now c.loop.sink c.turn.new.sink was.takes
    c.in_err-turn.ensures.takes)

pub returns-then-not-branch-clause-takes : goal.returns-then-not-branch-clause-takes
returns-then-not-branch-clause-takes g c =
    let was = c.loop.invariant in
    let given = g.S.EntrySource.given in
    takes_on g.K.StepSink.taken g.K.StepSink.takes c.goes_on.ensures c.args.evaluator.now
    c.loop.evaluator was.keeps (given c.args.source.now) (given c.loop.source)
    (given c.turn.new.source) None c.args.sink.now c.loop.sink c.turn.new.sink was.takes
    c.in_ok-turn.ensures.takes
