use Rattle.std.proofs.Common.{ℕ, subst}
use Rattle.delta_tree.proofs.Ids.{some_is_one}
use Rattle.end_log.specs.Runs.{AreDistinctStates}
use Rattle.end_log.proofs.states.StatesAt.look_at.Goals as goal

pub returns-clause-knows : goal.returns-clause-knows
returns-clause-knows c vertex same =
    let states = c.states_at.new.states.items in
    subst (λ (each : ℕ). AreDistinctStates c.args.table.now each states)
    (some_is_one c.args.vertex vertex same)
    (record { exact = c.in_ok-states_at.ensures.states; rising = c.in_ok-states_at.ensures.rising })
