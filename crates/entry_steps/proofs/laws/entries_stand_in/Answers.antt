use Rattle.std.proofs.Common.{List, map, sym, subst}
use Rattle.alike_histories.specs.Alike.{AllSeeAlike}
use Rattle.entry_steps.specs.Evaluator.{queries_of}
use Rattle.entry_steps.specs.Steps.{OptionsValue}
use Rattle.query_file.specs.Compiled.{CompiledValue}
use Rattle.two_way.specs.TwoWay.{walked}
use Rattle.entry_steps.proofs.laws.entries_stand_in.Goals as goal

pub returns : goal.returns
returns c = record {
  itself = λ evaluator history. c.alike_is_equivalence.ensures.itself (queries_of evaluator)
      (walked evaluator.options.two_way history);
  joined = λ evaluator kept between history first second.
      c.alike_is_equivalence.ensures.middle (queries_of evaluator)
      (walked evaluator.options.two_way kept) (walked evaluator.options.two_way between)
      (walked evaluator.options.two_way history) first second;
  with_more = λ evaluator kept history later is.
      c.alike_with_more.ensures.walked evaluator.options.two_way (queries_of evaluator) kept
      history later is;
  by_setup = λ old new kept history keeps is.
      subst (λ (options : OptionsValue). AllSeeAlike (queries_of new)
      (walked options.two_way kept) (walked options.two_way history)) (sym keeps.options)
      (subst (λ (compiled : List CompiledValue).
      AllSeeAlike (map (λ (each : CompiledValue). each.def) compiled)
      (walked old.options.two_way kept) (walked old.options.two_way history)) (sym keeps.queries)
      is);
  plain = λ evaluator kept history one other is.
      c.alike_both_ways.ensures.walked evaluator.options.two_way (queries_of evaluator) kept
      history one other is;
}
