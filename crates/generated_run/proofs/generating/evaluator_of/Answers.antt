use Rattle.std.proofs.Common.{◌≡◌, ◌<◌, false, List, [], map, refl, ap, subst, ◌∙◌, rules}
use Rattle.std.specs.List.{All}
use Rattle.std.proofs.lemmas.Result.{IfOk-weaker}
use Rattle.engine_loop.specs.Loop.{IsRunnable}
use Rattle.entry_steps.specs.Evaluator.{EvaluatorValue, IsNew}
use Rattle.entry_steps.specs.Steps.{OptionsValue}
use Rattle.query_file.specs.Compiled.{CompiledValue}
use Rattle.rpq_model.specs.Query.{Query}
use Rattle.generated_run.proofs.Beginning.{runs_new}
use Rattle.generated_run.proofs.generating.evaluator_of.Goals as goal

pub returns-clause-runs : goal.returns-clause-runs
returns-clause-runs g c =
    let queries = c.args.queries.items in
    let options : OptionsValue = record {
      two_way = c.args.two_way;
      paths = false;
      joins = c.in_ok-new.field-0.value.items;
    } in
    let none : c.in_ok-new.field-0.value.items ≡ [] = search rules in
    let same = c.deref-2.ensures.value ∙ (c.in_ok-copies.ensures
    ∙ ap (map (λ (each : CompiledValue). each.def)) c.deref.ensures.value) in
    let move = subst (λ (qs : List Query). All (λ (query : Query). 0 < query.window.slide) qs)
    same c.windows_move.ensures in
    IfOk-weaker c.new-4.result (λ (evaluator : EvaluatorValue).
    IsNew queries options c.args.workers evaluator)
    (λ (evaluator : EvaluatorValue). IsRunnable evaluator)
    (λ evaluator is. runs_new queries options c.args.workers evaluator is refl none
    c.requires.accepted move) c.new-4.ensures
