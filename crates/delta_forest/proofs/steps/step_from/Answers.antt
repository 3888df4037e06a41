use Rattle.std.proofs.Common.{sym, arith}
use Rattle.delta_forest.proofs.Removals.{no_step_past}
use Rattle.delta_forest.proofs.steps.step_from.Goals as goal

pub returns-then-state-states : goal.returns-then-state-states
returns-then-state-states c =
    sym (no_step_past c.args.dfa.now c.args.state c.args.label
    (omega (arith, c.states.ensures.number, c.if-state-states.true)))
