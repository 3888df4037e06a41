-- The history of the first generated tuples, and how it grows.
use Rattle.std.proofs.Common.{◌≡◌, ℕ, ◌+◌, ◌-◌, ◌<◌, ◌≤◌, min, true, List, ◌++◌, length, take, drop}
use Rattle.std.proofs.Common.{length-drop, sym, ap, ◌∙◌, arith}
use Rattle.std.proofs.lemmas.List.{take-append-drop, take-take, length-take}
use Rattle.std.proofs.lemmas.List.FromFn.{take-map-range_with_len}
use Rattle.std.proofs.lemmas.List.Elements.{All-drop}
use Rattle.std.proofs.Math.Seq.{take-add}
use Rattle.engine_loop.specs.Sources.{ComesNext, Repeats}
use Rattle.entry_steps.specs.Evaluator.{EvaluatorValue}
use Rattle.rpq_base.specs.Plain.{IsPlain}
use Rattle.rpq_base.specs.declared.data.Entry.{Entry}
use Rattle.tuple_generator.specs.Generator.{generated_history, entry_at}
use Rattle.tuple_generator.specs.Laws.{HistoryIsOfFirstStream}

-- a history of more tuples goes on from one of fewer
pub history_goes_on : (count more : ℕ) → count ≤ more →
    generated_history more ≡ generated_history count ++ drop count (generated_history more)
history_goes_on count more within =
    sym (take-append-drop count (generated_history more))
    ∙ ap (λ (first : List Entry). first ++ drop count (generated_history more))
    (take-map-range_with_len entry_at 1 more count within)

-- the entries behind so many come next, where there are more
pub they_come_next : HistoryIsOfFirstStream → (evaluator : EvaluatorValue)
    (count more most : ℕ) → count < more → more ≤ 1000000 → more ≤ count + most →
    (evaluator.options.paths ≡ true → most ≡ 1) →
    ComesNext evaluator (generated_history count) (generated_history more)
    (drop count (generated_history more))
they_come_next law evaluator count more most further few within one =
    let many : length (drop count (generated_history more)) ≡ more - count =
    length-drop count (generated_history more) ∙ ap (λ (n : ℕ). n - count) (law.many more) in
    record {
      all = history_goes_on count more (omega (arith, further));
      some = omega (arith, many, further);
      one = λ told. omega (arith, many, within, one told);
      plain = All-drop IsPlain count (generated_history more) (law.plain more);
      short = omega (arith, law.many more, few);
    }

-- entries behind so many are given once more, of the first of them
pub they_repeat : HistoryIsOfFirstStream → (count from to most : ℕ) (entries : List Entry) →
    to ≤ count → from < to → 0 < most →
    entries ≡ take (min most (to - from)) (drop from (generated_history count)) →
    Repeats (take to (generated_history count)) from entries
they_repeat law count from to most entries within some any is =
    let given = generated_history count in
    let end = min most (to - from) in
    let many : length entries ≡ end =
    omega (
      arith,
      ap length is,
      length-take end (drop from given),
      length-drop from given,
      law.many count,
      within,
      some,
    ) in
    record {
      follow = take-take (from + length entries) to given (omega (arith, many, some))
          ∙ (ap (λ (n : ℕ). take (from + n) given) many
          ∙ (take-add from end given
          ∙ (ap (λ (more : List Entry). take from given ++ more) (sym is)
          ∙ ap (λ (first : List Entry). first ++ entries)
          (sym (take-take from to given (omega (arith, some)))))));
      some = omega (arith, many, any, some);
    }

-- the first so many of them are as many
pub kept_many : HistoryIsOfFirstStream → (before count : ℕ) → before ≤ count →
    before ≡ length (take before (generated_history count))
kept_many law before count within =
    omega (arith, length-take before (generated_history count), law.many count, within)

-- once there are more, all that there were are kept: those that were, and the front behind them
pub kept_next : (before count after more : ℕ) → after ≡ count → count ≤ more →
    take after (generated_history more)
    ≡ take before (generated_history count) ++ drop before (generated_history count)
kept_next before count after more same within =
    ap (λ (n : ℕ). take n (generated_history more)) same
    ∙ (take-map-range_with_len entry_at 1 more count within
    ∙ sym (take-append-drop before (generated_history count)))
