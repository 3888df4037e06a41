use Rattle.std.proofs.Common.{◌≡◌, Bool, false, List, [], ◌∷◌, ◌++◌, ap, ap₂, sym, subst₂, ◌∙◌}
use Rattle.std.specs.Prelude.{is_err, is_some, map, nat_le, not}
use Rattle.std.specs.Global.{Vec}
use Rattle.ask_text.specs.Answered.{AnsweredValue}
use Rattle.stream_tuples.specs.declared.ends.StreamEnd.{StreamEnd}
use Rattle.rpq_text.specs.declared.ends.SinkName.{SinkName}
use Rattle.rpq_text.specs.ErrorLines.{run_lines}
use Rattle.rpq_text.specs.Statuses.{IsStatusOf, first_status}
use Rattle.rpq_run.specs.Ended.{end_of}
use Rattle.rpq_run.specs.Failed.{failed_sinks}
use Rattle.rpq_run.specs.Outcome.{meanings, sinks}
use Rattle.rpq_run.specs.Written.{TellsLines}
use Rattle.rpq_run.proofs.ErrorTexts.{told_lines}
use Rattle.rpq_run.proofs.Generating.{runs_generated}
use Rattle.rpq_run.proofs.generated.run_generated.Goals as goal

pub returns-clause-runs : goal.returns-clause-runs
returns-clause-runs g c = λ file has.
    let written = g.F.Sink.Sink.written in
    let failures = g.F.Sink.Sink.faults in
    let task = c.args.generation in
    let run = c.generate-history.result in
    let wrote = c.write_summary.result in
    let status = c.run_status-status.result in
    let errors = c.args.errors.now in
    let errors' = c.tell_end.new.errors in
    let fits = nat_le task.count task.limit in
    let ends = end_of (is_some run.summary) fits ∷ [] in
    let failed = failed_sinks (is_err wrote) false false in
    let failed_are : c.failed_sinks-failed.result.now ≡ failed =
    c.failed_sinks-failed.ensures ∙ ap (λ e. failed_sinks e false false) c.is_err.ensures.value in
    let ends_are : c.push_reserved.new.self.items ≡ ends =
    c.push_reserved.ensures.items ∙ ap₂ (λ (before : List StreamEnd) (end : StreamEnd). before ++ end ∷ [])
    c.in_ok-ends.ensures.items (c.end_of.ensures ∙ ap (λ (done : Bool). end_of done fits) c.is_some-is_done.ensures) in
    let status_is = subst₂ (λ (es : List StreamEnd) (fs : List SinkName). IsStatusOf es [] fs status)
    (c.deref.ensures.value ∙ ends_are) failed_are c.run_status-status.ensures.status in
    let told = subst₂ (λ (es : List StreamEnd) (fs : List SinkName). TellsLines written failures
    (run_lines es [] fs status) errors errors') (c.deref-2.ensures.value ∙ ends_are) failed_are
    (told_lines written failures (run_lines c.deref-2.result.now [] c.failed_sinks-failed.result.now status)
    errors errors' c.tell_end.result c.tell_end.ensures) in
    runs_generated (meanings g.F.Source.Source.left g.F.Source.Source.faults written failures) file
    task (sinks c.args.events.now c.write_summary.new.events errors errors') _ c.in_ok-circle.circle run
    wrote status has c.generate-history.ensures c.write_summary.ensures
    (λ none. c.run_status-status.ensures.memory (ap not (c.is_some-is_done.ensures ∙ none)))
    (λ some. c.run_status-status.ensures.others (ap not (c.is_some-is_done.ensures ∙ some))
    ∙ ap₂ (λ (es : List StreamEnd) (fs : List SinkName). first_status es [] fs) (c.deref.ensures.value ∙ ends_are)
    failed_are)
    c.of.result.items c.of.result.base c.push_reserved.new.self.items c.new.result.items
    c.new-2.result.items (map (λ (own : Vec AnsweredValue). own.items) c.new-3.result.items) c.new-4.result.items
    c.args.standing.now.items c.put_back-left.new.standing.items c.put_back-left.result.items
    c.of.ensures.items c.of.ensures.base (sym ends_are) c.new.ensures.items c.new-2.ensures.items
    (ap (map (λ (own : Vec AnsweredValue). own.items)) c.new-3.ensures.items) c.new-4.ensures.items
    c.in_ok-circle.ensures.members (sym c.put_back-left.ensures.stayed) (sym c.put_back-left.ensures.left)
    status_is told
