use Rattle.std.proofs.Common.{◌≡◌, List, ap, ap₂, subst, ◌∙◌}
use Rattle.live_asks.specs.declared.ends.ReaderEnd.{ReaderEnd}
use Rattle.stream_tuples.specs.declared.ends.StreamEnd.{StreamEnd}
use Rattle.rpq_text.specs.declared.ends.SinkName.{SinkName}
use Rattle.rpq_text.specs.ErrorLines.{run_lines}
use Rattle.rpq_text.specs.Statuses.{IsStatusOf, first_status}
use Rattle.rpq_run.specs.Ending.{shortage_of}
use Rattle.rpq_run.specs.Outcome.{ends_of}
use Rattle.rpq_run.specs.Written.{TellsLines}
use Rattle.rpq_run.proofs.ErrorTexts.{told_lines}
use Rattle.rpq_run.proofs.Statuses.{status_short}
use Rattle.rpq_run.proofs.streams.end_run.Goals as goal

pub returns-clause-told : goal.returns-clause-told
returns-clause-told g c =
    let written = g.F.Sink.Sink.written in
    let failures = g.F.Sink.Sink.faults in
    let status = c.run_status-status.result in
    let failed = c.failed_of-failed.result.now in
    let asked = c.ends_of-asked.ensures ∙ ap ends_of c.deref.ensures.value in
    let ends = c.deref-4.ensures.value in
    let readers = c.deref-5.ensures.value ∙ asked in
    subst (λ lines. TellsLines written failures lines c.args.errors.now c.tell_end.new.errors)
    (λ i. run_lines (ends i) (readers i) (c.failed_of-failed.ensures i) status)
    (told_lines written failures (run_lines c.deref-4.result.now c.deref-5.result.now failed status)
    c.args.errors.now c.tell_end.new.errors c.tell_end.result c.tell_end.ensures)

pub returns-clause-status : goal.returns-clause-status
returns-clause-status g c =
    let asked = c.ends_of-asked.ensures ∙ ap ends_of c.deref.ensures.value in
    let ends = c.deref-2.ensures.value in
    let readers = c.deref-3.ensures.value ∙ asked in
    let status = c.run_status-status.result in
    subst (λ (is : List SinkName). IsStatusOf c.args.outcome.ends.items
    (ends_of c.args.outcome.readers.items) is status) c.failed_of-failed.ensures
    (subst (λ (is : List ReaderEnd). IsStatusOf c.args.outcome.ends.items is
    c.failed_of-failed.result.now status) readers
    (subst (λ (is : List StreamEnd). IsStatusOf is c.deref-3.result.now
    c.failed_of-failed.result.now status) ends c.run_status-status.ensures.status))

pub returns-clause-memory : goal.returns-clause-memory
returns-clause-memory g c =
    let threads = c.args.outcome in
    let asked = c.ends_of-asked.ensures ∙ ap ends_of c.deref.ensures.value in
    let ends : c.deref-2.result.now ≡ threads.ends.items = c.deref-2.ensures.value in
    let readers : c.deref-3.result.now ≡ ends_of threads.readers.items = c.deref-3.ensures.value ∙ asked in
    let failed = c.failed_of-failed.result.now in
    let short = c.is_short_of_memory-is_short.ensures in
    let is = c.run_status-status.ensures in
    let first = ap₂ (λ (es : List StreamEnd) (rs : List ReaderEnd). first_status es rs failed) ends readers in
    status_short threads.ends.items (ends_of threads.readers.items) failed c.run_status-status.result
    (shortage_of threads.why threads.short_of_memory c.args.written)
    (λ any. is.memory (short ∙ any)) (λ none. is.others (short ∙ none) ∙ first)
    (λ eight. is.status.memory (first ∙ eight))
