use Rattle.std.proofs.Common.{◌≡◌, false, List, [], ap, subst, ◌∙◌}
use Rattle.std.specs.Prelude.{is_err, map}
use Rattle.std.specs.Global.{Vec}
use Rattle.ask_text.specs.Answered.{AnsweredValue}
use Rattle.rpq_text.specs.declared.ends.SinkName.{SinkName}
use Rattle.rpq_text.specs.ErrorLines.{run_lines}
use Rattle.rpq_text.specs.Statuses.{first_status}
use Rattle.rpq_run.specs.Failed.{failed_sinks}
use Rattle.rpq_run.specs.Outcome.{meanings, sinks}
use Rattle.rpq_run.specs.Written.{TellsLines}
use Rattle.rpq_run.proofs.ErrorTexts.{told_lines}
use Rattle.rpq_run.proofs.Checking.{runs_check}
use Rattle.rpq_run.proofs.check.run_check.Goals as goal

pub returns-clause-runs : goal.returns-clause-runs
returns-clause-runs g c = λ two_way file kept leaves has.
    let left = g.F.Source.Source.left in
    let faults = g.F.Source.Source.faults in
    let written = g.F.Sink.Sink.written in
    let failures = g.F.Sink.Sink.faults in
    let result = c.write_verdicts-written.result in
    let status = c.first_status-status.result in
    let errors = c.args.errors.now in
    let errors' = c.tell_end.new.errors in
    let all = sinks c.args.events.now c.write_verdicts-written.new.events errors errors' in
    let failed = failed_sinks (is_err result) false false in
    let failed_are : c.failed_sinks-failed.result.now ≡ failed =
    c.failed_sinks-failed.ensures ∙ ap (λ e. failed_sinks e false false) c.is_err.ensures.value in
    let status_is : status ≡ first_status [] [] failed =
    c.first_status-status.ensures ∙ ap (λ (fs : List SinkName). first_status [] [] fs) failed_are in
    let told = subst (λ (fs : List SinkName). TellsLines written failures (run_lines [] [] fs status) errors errors')
    failed_are (told_lines written failures (run_lines [] [] c.failed_sinks-failed.result.now status)
    errors errors' c.tell_end.result c.tell_end.ensures) in
    runs_check (meanings left faults written failures) two_way file c.args.queries.now all result status kept
    c.new.result.items c.new.result.base c.new-2.result.items c.new-3.result.items c.new-4.result.items
    (map (λ (own : Vec AnsweredValue). own.items) c.new-5.result.items) c.new-6.result.items
    c.new.ensures.items c.new.ensures.base c.new-2.ensures.items c.new-3.ensures.items c.new-4.ensures.items
    (ap (map (λ (own : Vec AnsweredValue). own.items)) c.new-5.ensures.items) c.new-6.ensures.items leaves
    has c.requires.compiled c.write_verdicts-written.ensures status_is told
