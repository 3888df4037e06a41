-- An evaluator with which a run over generated tuples begins.
use Rattle.std.proofs.Common.{◌≡◌, ℕ, ◌<◌, true, false, List, [], length, map, sym, ap, subst, ◌∙◌}
use Rattle.std.specs.List.{All}
use Rattle.std.proofs.lemmas.List.Elements.{All-map, All-nil}
use Rattle.containment_laws.specs.Accepted.{IsAccepted}
use Rattle.engine_loop.specs.Loop.{IsRunnable}
use Rattle.entry_steps.specs.Evaluator.{EvaluatorValue, IsNew, queries_of}
use Rattle.entry_steps.specs.Steps.{OptionsValue, CanRun}
use Rattle.join_file.specs.Joins.{JoinValue}
use Rattle.join_file.specs.Sound.{IsSound}
use Rattle.query_file.specs.Compiled.{CompiledValue}
use Rattle.rpq_model.specs.Query.{Query}

-- no join is over whatever queries
pub no_joins : (queries : ℕ) (joins : List JoinValue) → joins ≡ [] →
    All (IsSound queries) joins
no_joins queries joins none =
    subst (λ (each : List JoinValue). All (IsSound queries) each) (sym none)
    (All-nil (IsSound queries))

-- a run can be with a new evaluator of accepted queries, by which no paths and no joins are told
pub runs_new : (queries : List CompiledValue) (options : OptionsValue) (workers : ℕ)
    (evaluator : EvaluatorValue) → IsNew queries options workers evaluator →
    options.paths ≡ false → options.joins ≡ [] →
    All (λ (each : CompiledValue). IsAccepted each.def) queries →
    All (λ (query : Query). 0 < query.window.slide)
    (map (λ (each : CompiledValue). each.def) queries) →
    IsRunnable evaluator
runs_new queries options workers evaluator is silent none accepted move =
    let definitions = map (λ (each : CompiledValue). each.def) queries in
    let same : queries_of evaluator ≡ definitions =
    ap (map (λ (each : CompiledValue). each.def)) is.queries_are in
    record {
      can_run = subst (λ (given : OptionsValue). CanRun given (queries_of evaluator))
          (sym is.options_are)
          (subst (λ (qs : List Query). CanRun options qs) (sym same)
          (record {
            evaluable = record {
              accepted = All-map IsAccepted (λ (each : CompiledValue). each.def) queries accepted;
              move = move;
            };
            sound = no_joins (length definitions) options.joins none;
          }));
      forwards = λ told. absurd (
          let told_so : options.paths ≡ true =
          sym (ap (λ (o : OptionsValue). o.paths) is.options_are) ∙ told in
          let never : false ≡ true = sym silent ∙ told_so in cc);
    }
