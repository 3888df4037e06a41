use Rattle.std.proofs.Common.{length, ap, subst, arith}
use Rattle.dfa_table.specs.DfaValue.{DfaValue, IsDfa}
use Rattle.query_index.proofs.BestPaths.{better_below, none_below, none_is, some_is}
use Rattle.query_index.proofs.paths.best_state.Goals as goal

pub loop-state-init : goal.loop-state-init
loop-state-init c = none_below c.args.forest.now c.args.root c.args.vertex

pub loop-state-preserved : goal.loop-state-preserved
loop-state-preserved c =
    better_below c.args.forest.now c.args.root c.args.vertex c.loop-state.state c.loop-state.best
    c.better-best.result c.final_value.result c.loop-state.invariant c.final_value.ensures
    c.better-best.ensures

pub returns-clause-none : goal.returns-clause-none
returns-clause-none c =
    none_is c.args.forest.now c.args.root c.args.vertex c.loop-state.state
    (subst IsDfa c.dfa.ensures c.states-state-end.ensures.valid)
    (omega (
      arith,
      c.loop-state-test.false,
      c.states-state-end.ensures.number,
      ap (λ (dfa : DfaValue). length dfa.rows) c.dfa.ensures,
    ))
    c.loop-state.best c.loop-state.invariant c.state_of.result c.state_of.ensures

pub returns-clause-some : goal.returns-clause-some
returns-clause-some c =
    some_is c.args.forest.now c.args.root c.args.vertex c.loop-state.state
    (subst IsDfa c.dfa.ensures c.states-state-end.ensures.valid)
    (omega (
      arith,
      c.loop-state-test.false,
      c.states-state-end.ensures.number,
      ap (λ (dfa : DfaValue). length dfa.rows) c.dfa.ensures,
    ))
    c.loop-state.best c.loop-state.invariant c.state_of.result c.state_of.ensures
