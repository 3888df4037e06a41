use Rattle.std.proofs.Common.{true, refl, ◌∙◌, rules}
use Rattle.rpq_text.specs.Definitions.{compiled_line}
use Rattle.rpq_run.proofs.ErrorTexts.{tells_element, elements_more}
use Rattle.rpq_run.proofs.check.write_verdicts.Goals as goal

pub returns-in_err-write_verdict : goal.returns-in_err-write_verdict
returns-in_err-write_verdict g c =
    tells_element compiled_line c.args.queries.now c.loop-query.query-index c.query-item.result
    c.loop-query-test.true c.query-item.is c.loop-query.invariant.written c.loop-query.invariant.quiet
    (search rules) c.in_err-write_verdict.ensures

pub loop-query-preserved : goal.loop-query-preserved
loop-query-preserved g c = record {
  written = elements_more compiled_line c.args.queries.now c.loop-query.query-index c.query-item.result
      (g.K.Sink.written c.args.events.now) (g.K.Sink.written c.loop-query.events)
      (g.K.Sink.written c.write_verdict.new.events) c.loop-query-test.true c.query-item.is
      c.loop-query.invariant.written (c.in_ok-write_verdict.ensures.whole (refl {a = true}));
  quiet = c.in_ok-write_verdict.ensures.counted.quiet (λ err. cc err) ∙ c.loop-query.invariant.quiet;
}
