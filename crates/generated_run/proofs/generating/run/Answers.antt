use Rattle.std.proofs.Common.{◌≡◌, ℕ, List, None, length, map, sym, ap, ap₂, subst, ◌∙◌}
use Rattle.std.specs.Prelude.{⊤}
use Rattle.std.specs.Result.{result_err}
use Rattle.std.proofs.lemmas.List.{length-map}
use Rattle.std.proofs.lemmas.Slice.Zip.{AllZip-long}
use Rattle.answer_rows.specs.Answers.{Answer}
use Rattle.answer_view.specs.View.{ViewValue, AreRowsOf}
use Rattle.entry_steps.specs.Evaluator.{IsViewAfter, queries_of as queries_in}
use Rattle.entry_steps.specs.Steps.{OptionsValue}
use Rattle.query_file.specs.Compiled.{CompiledValue}
use Rattle.rpq_model.specs.Query.{Query, path_query}
use Rattle.standing.specs.Circles.{as_seen}
use Rattle.tuple_generator.specs.Generator.{generated_history}
use Rattle.two_way.specs.TwoWay.{walked}
use Rattle.generated_run.specs.Generates.{AreTold, queries_of, said_by}
use Rattle.generated_run.specs.Summary.{summary_text}
use Rattle.generated_run.proofs.Running.{AreRowsFor, told_none, told_so, summary_so}
use Rattle.generated_run.proofs.generating.run.Goals as goal

pub returns-in_default-clause-part : goal.returns-in_default-clause-part
returns-in_default-clause-part g c =
    let queries = queries_of c.args.task in
    let circle = c.args.counts.now.circle in
    let seen = g.O.Standing.seen in
    subst (λ (made : ℕ). AreTold c.args.task.two_way queries (generated_history made)
    (map seen circle.members) ⊥ (as_seen seen circle))
    (sym c.requires.none)
    (told_none seen c.args.task.two_way queries circle c.requires.new.fresh ⊥)

pub returns-in_default-answer_all-clause-part : goal.returns-in_default-answer_all-clause-part
returns-in_default-answer_all-clause-part g c =
    let was = c.in-Ok.ensures in
    (told_so g.O.Standing.seen c.args.task c.in-Ok.evaluator was.two_way was.queries
    (generated_history c.args.entries.now.count)
    (generated_history c.answer_all.new.source.count) (ap generated_history c.requires.none)
    (result_err c.answer_all.result) c.args.counts.now c.answer_all.new.sink c.requires.new
    c.answer_all.ensures.takes ⊥ (λ never. absurd never))

pub returns-in_default-view-clause-part : goal.returns-in_default-view-clause-part
returns-in_default-view-clause-part g c =
    let was = c.in-Ok.ensures in
    (told_so g.O.Standing.seen c.args.task c.in-Ok.evaluator was.two_way was.queries
    (generated_history c.args.entries.now.count)
    (generated_history c.answer_all.new.source.count) (ap generated_history c.requires.none)
    (result_err c.answer_all.result) c.args.counts.now c.answer_all.new.sink c.requires.new
    c.answer_all.ensures.takes ⊥ (λ never. absurd never))

pub returns-in_default-summary_text-clause-part : goal.returns-in_default-summary_text-clause-part
returns-in_default-summary_text-clause-part g c =
    let was = c.in-Ok.ensures in
    (told_so g.O.Standing.seen c.args.task c.in-Ok.evaluator was.two_way was.queries
    (generated_history c.args.entries.now.count)
    (generated_history c.answer_all.new.source.count) (ap generated_history c.requires.none)
    (result_err c.answer_all.result) c.args.counts.now c.answer_all.new.sink c.requires.new
    c.answer_all.ensures.takes ⊥ (λ never. absurd never))

pub returns-clause-told : goal.returns-clause-told
returns-clause-told g c =
    let was = c.in-Ok.ensures in
    let whole : result_err c.answer_all.result ≡ None = ap result_err c.in-Ok-answer_all.is in
    (told_so g.O.Standing.seen c.args.task c.in-Ok.evaluator was.two_way was.queries
    (generated_history c.args.entries.now.count)
    (generated_history c.answer_all.new.source.count) (ap generated_history c.requires.none)
    (result_err c.answer_all.result) c.args.counts.now c.answer_all.new.sink c.requires.new
    c.answer_all.ensures.takes ⊤ (λ _. whole))

pub summary_text-requires-clause-view : goal.summary_text-requires-clause-view
summary_text-requires-clause-view g c =
    let new = c.answer_all.new.evaluator in
    let made = generated_history c.answer_all.new.source.count in
    let history = walked new.options.two_way made in
    let view = c.in-Ok-view.view.value in
    let stands = c.in-Ok-answer_all.ensures.along.stands in
    let shows : IsViewAfter new made view = c.in-Ok-view.ensures.view made stands in
    let many : length view.rows ≡ length (queries_in new) =
    AllZip-long (λ (query : Query) (own : List Answer). AreRowsOf (path_query query) history own)
    (queries_in new) view.rows shows.rows in
    let kept : c.queries-queries.result.now ≡ new.engine.queries =
    c.queries-queries.ensures ∙ c.view.ensures.keeps.queries in
    ap (λ (each : ViewValue). length each.rows) c.deref.ensures
    ∙ (many
    ∙ (length-map new.engine.queries (λ (each : CompiledValue). each.def)
    ∙ ap (λ (each : List CompiledValue). length each) (sym kept)))

pub returns-clause-summary : goal.returns-clause-summary
returns-clause-summary g c =
    let was = c.in-Ok.ensures in
    let old = c.in-Ok.evaluator in
    let new = c.answer_all.new.evaluator in
    let keeps = c.answer_all.ensures.keeps in
    let seen = g.O.Standing.seen in
    let made = generated_history c.answer_all.new.source.count in
    let counts = c.answer_all.new.sink in
    let said = said_by (as_seen seen counts.circle) in
    let view = c.in-Ok-view.view.value in
    let whole : result_err c.answer_all.result ≡ None = ap result_err c.in-Ok-answer_all.is in
    let kept : c.queries-queries.result.now ≡ old.engine.queries =
    c.queries-queries.ensures ∙ (c.view.ensures.keeps.queries ∙ keeps.queries) in
    let sees : IsViewAfter new made view =
    c.in-Ok-view.ensures.view made c.in-Ok-answer_all.ensures.along.stands in
    let shows : AreRowsFor old.options.two_way (queries_in old) made view =
    subst (λ (options : OptionsValue). AreRowsFor options.two_way (queries_in old) made view)
    keeps.options (subst (λ (compiled : List CompiledValue). AreRowsFor new.options.two_way
    (map (λ (each : CompiledValue). each.def) compiled) made view) keeps.queries sees.rows) in
    let by : List CompiledValue → ViewValue → List ℕ =
    λ each shown. summary_text counts.totals.entries counts.totals.added counts.totals.retracted
    (map (λ (one : CompiledValue). one.def) each)
    (map (λ (own : List Answer). length own) shown.rows) said in
    let text = c.in-Ok-summary_text.text in
    summary_so seen c.args.task old was.two_way was.queries
    (generated_history c.args.entries.now.count) made (ap generated_history c.requires.none)
    (result_err c.answer_all.result) c.args.counts.now counts c.requires.new
    c.answer_all.ensures.takes whole view text.items shows
    (c.in-Ok-summary_text.ensures ∙ ap₂ by kept c.deref.ensures)
