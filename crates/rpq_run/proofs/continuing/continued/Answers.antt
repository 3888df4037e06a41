use Rattle.rpq_run.specs.Outcome.{meanings}
use Rattle.rpq_run.proofs.TwoRuns.{two_runs}
use Rattle.rpq_run.proofs.continuing.continued.Goals as goal

pub returns : goal.returns
returns g c = λ first second is_first is_second goes.
    two_runs (meanings g.F.Source.Source.left g.F.Source.Source.faults g.F.Sink.Sink.written
    g.F.Sink.Sink.faults) first second (record {
      one = c.one_outcome.ensures;
      continues = c.saved_continues.ensures;
      is_read = c.saved_text_is_read.ensures;
      by_parts = c.line_by_parts.ensures;
    }) is_first is_second
    (c.headline.ensures second.given second.holds second.sinks second.objects second.outcome
    second.told is_second.runs goes.done is_second.told) goes
