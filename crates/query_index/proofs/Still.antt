-- An index whose rows are made anew: it stands for what it stood for.
use Rattle.std.proofs.Common.{◌≡◌, ℕ, List, sym, ap, subst, ◌∙◌, arith}
use Rattle.window_clock.specs.Clock.{ClockValue}
use Rattle.delta_forest.specs.Forest.{ForestValue, IsIndexed}
use Rattle.index_laws.specs.Index.{HoldsStoreOf}
use Rattle.query_file.specs.Compiled.{CompiledValue}
use Rattle.query_index.specs.Answering.{HasHistory}
use Rattle.query_index.specs.IndexValue.{IndexValue}
use Rattle.query_index.specs.Shown.{HasRows}
use Rattle.query_index.specs.Showing.{StandsStill}

pub stands_still : (query : CompiledValue) (names : List (List ℕ)) (old new : IndexValue) →
    new.clock ≡ old.clock → new.forest ≡ old.forest → HasRows query.def.mode names new →
    StandsStill query names old new
stands_still query names old new clock forest rows = record {
  forest = forest;
  stands = λ history fed is. record {
    size = ap (λ (each : ClockValue). each.size) clock ∙ is.size;
    slide = ap (λ (each : ClockValue). each.slide) clock ∙ is.slide;
    time = ap (λ (each : ClockValue). each.clock) clock ∙ is.time;
    automaton = ap (λ (each : ForestValue). each.dfa) forest ∙ is.automaton;
    holds = subst (λ (each : ForestValue).
        HoldsStoreOf query.def.window history names each.dfa each.store) (sym forest) is.holds;
    indexed = subst IsIndexed (sym forest) is.indexed;
    unbroken = ap (λ (each : ForestValue). each.broken) forest ∙ is.unbroken;
    few = omega (arith, ap (λ (each : ForestValue). each.calls) forest, is.few);
    rows = rows;
  };
}

pub history_still : (query : CompiledValue) (names : List (List ℕ)) (old new : IndexValue) →
    StandsStill query names old new → HasHistory query names old → HasHistory query names new
history_still query names old new still has = record {
  history = has.history;
  fed = has.fed;
  short = has.short;
  is = still.stands has.history has.fed has.is;
}
