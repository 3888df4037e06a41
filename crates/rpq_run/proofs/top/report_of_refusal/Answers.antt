use Rattle.rpq_text.specs.ErrorLines.{start_line}
use Rattle.rpq_run.proofs.ErrorTexts.{told_lines}
use Rattle.rpq_run.proofs.top.report_of_refusal.Goals as goal

pub returns-clause-errors : goal.returns-clause-errors
returns-clause-errors g c =
    told_lines g.F.Sink.Sink.written g.F.Sink.Sink.faults (start_line c.args.fault)
    c.args.errors.now c.tell_start.new.errors c.tell_start.result c.tell_start.ensures
