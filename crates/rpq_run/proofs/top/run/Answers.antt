use Rattle.std.proofs.Common.{◌≡◌, Option, Some, sym, subst, ◌∙◌, ◌⊎◌}
use Rattle.rpq_words.specs.Settings.{settings, texts}
use Rattle.rpq_text.specs.declared.ends.StartFault.{StartFault}
use Rattle.rpq_text.specs.declared.ends.StartFault.TheVariants.{Memory}
use Rattle.run_start.specs.Start.{AreSourcesOf, UsesFiles, file_held}
use Rattle.rpq_run.specs.Outcome.{meanings, openings, outcome, sinks}
use Rattle.rpq_run.proofs.Done.{runs_done, runs_quiet}
use Rattle.rpq_run.proofs.Refusals.{files_untouched, never_done, stopped_for_memory, uses_files}
use Rattle.rpq_run.proofs.Refusals.{wants_memory}
use Rattle.rpq_run.proofs.Tops.{for_given}
use Rattle.rpq_run.proofs.top.run.Goals as goal

-- ---- a run that doesn't begin

pub returns-in_default-clause-files : goal.returns-in_default-clause-files
returns-in_default-clause-files g c =
    subst (λ (start : Option StartFault). UsesFiles g.F.Files.holds g.F.Files.opened g.F.Files.made g.F.Files.unread
    g.F.Files.unmade (settings (texts c.args.words.now)) start c.args.files.now c.args.files.now)
    (sym c.report_of_refusal-in_default.ensures.start)
    (files_untouched g.F.Files.holds g.F.Files.opened g.F.Files.made g.F.Files.unread g.F.Files.unmade
    (settings (texts c.args.words.now)) Memory c.args.files.now tt)

pub returns-in-Err-clause-files : goal.returns-in-Err-clause-files
returns-in-Err-clause-files g c =
    subst (λ (start : Option StartFault). UsesFiles g.F.Files.holds g.F.Files.opened g.F.Files.made g.F.Files.unread
    g.F.Files.unmade (settings (texts c.args.words.now)) start c.args.files.now c.args.files.now)
    (sym c.report_of_refusal.ensures.start)
    (files_untouched g.F.Files.holds g.F.Files.opened g.F.Files.made g.F.Files.unread g.F.Files.unmade
    (settings (texts c.args.words.now)) c.in-Err.fault c.args.files.now c.in-Err.ensures.cause)

pub returns-in-Err-begin-clause-complete : goal.returns-in-Err-begin-clause-complete
returns-in-Err-begin-clause-complete g c = for_given _ c.in-Ok.chosen _ c.in-Ok.ensures.ok (λ form none.
    let left = g.F.Source.Source.left in
    let faults = g.F.Source.Source.faults in
    let files = c.args.files.now in
    let files' = c.begin.new.files in
    let given = c.in-Ok.chosen in
    let holds = g.F.Files.holds files in
    let fault = c.in-Err-begin.field-0.fault in
    let told = c.report_of_refusal-in-Err-begin.ensures in
    let used = c.in-Err-begin.ensures.files in
    subst (λ s. (s ≡ 0) ⊎ (s ≡ 8)) (sym told.status)
    (wants_memory (meanings left faults g.F.Sink.Sink.written g.F.Sink.Sink.faults) given holds
    (openings (g.F.Files.unread files) (g.F.Files.unread files') (g.F.Files.unmade files) (g.F.Files.unmade files'))
    (sinks c.args.events.now c.args.events.now c.args.errors.now c.report_of_refusal-in-Err-begin.new.errors)
    (outcome c.report_of_refusal-in-Err-begin.result) fault c.in-Err-begin.ensures.cause
    (subst (λ ss. AreSourcesOf left faults (file_held (Some given) holds) fault ss)
    (sym (told.sources ∙ c.of_source.ensures)) c.in-Err-begin.ensures.source)
    (λ name is. (used.openings name).rose is) (λ name is. (used.makings name).rose is) form none))

pub returns-in-Err-begin-clause-done : goal.returns-in-Err-begin-clause-done
returns-in-Err-begin-clause-done g c = λ done. absurd (never_done c.in-Err-begin.field-0.fault
    (sym c.report_of_refusal-in-Err-begin.ensures.status ∙ done))

-- ---- a run that begins

pub returns-in-Ok-run_begun-clause-done : goal.returns-in-Ok-run_begun-clause-done
returns-in-Ok-run_begun-clause-done g c = λ done.
    let used = c.in-Ok-begin.ensures.files in
    let files = c.args.files.now in
    let files' = c.begin.new.files in
    let holds = g.F.Files.holds files in
    runs_quiet (meanings g.F.Source.Source.left g.F.Source.Source.faults g.F.Sink.Sink.written g.F.Sink.Sink.faults)
    (settings (texts c.args.words.now)) c.in-Ok.chosen holds
    (openings (g.F.Files.unread files) (g.F.Files.unread files') (g.F.Files.unmade files) (g.F.Files.unmade files'))
    (sinks c.args.events.now c.run_begun.new.events c.args.errors.now c.run_begun.new.errors)
    (outcome c.in-Ok-run_begun.report) c.in-Ok.ensures.ok (λ name. (used.openings name).quiet (λ none. none))
    (λ name. (used.makings name).quiet (λ none. none)) c.in-Ok-begin.ensures.read c.in-Ok.ensures.taken done _
    (c.in-Ok-run_begun.ensures.runs holds c.in-Ok-begin.ensures.ready)

pub returns-in-Ok-run_begun-clause-complete : goal.returns-in-Ok-run_begun-clause-complete
returns-in-Ok-run_begun-clause-complete g c = for_given _ c.in-Ok.chosen _ c.in-Ok.ensures.ok (λ form none.
    let files = c.args.files.now in
    let files' = c.begin.new.files in
    let holds = g.F.Files.holds files in
    runs_done (meanings g.F.Source.Source.left g.F.Source.Source.faults g.F.Sink.Sink.written g.F.Sink.Sink.faults)
    c.in-Ok.chosen holds
    (openings (g.F.Files.unread files) (g.F.Files.unread files') (g.F.Files.unmade files) (g.F.Files.unmade files'))
    (sinks c.args.events.now c.run_begun.new.events c.args.errors.now c.run_begun.new.errors) _
    (outcome c.in-Ok-run_begun.report) (c.in-Ok-run_begun.ensures.runs holds c.in-Ok-begin.ensures.ready) form none)

pub returns-clause-files : goal.returns-clause-files
returns-clause-files g c =
    let holds = g.F.Files.holds in
    let opened = g.F.Files.opened in
    let made = g.F.Files.made in
    let unread = g.F.Files.unread in
    let unmade = g.F.Files.unmade in
    let words = settings (texts c.args.words.now) in
    let files = c.args.files.now in
    let files' = c.begin.new.files in
    subst (λ (start : Option StartFault). UsesFiles holds opened made unread unmade words start files files')
    (sym c.report_of_refusal-in-Err-run_begun.ensures.start)
    (uses_files holds opened made unread unmade words c.in-Ok.chosen (Some Memory) files files' c.in-Ok.ensures.ok
    (stopped_for_memory holds opened made unread unmade c.in-Ok.chosen files files' c.in-Ok-begin.ensures.files))
