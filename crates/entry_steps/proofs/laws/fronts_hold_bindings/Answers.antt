use Rattle.entry_steps.proofs.JoinedSteps.{fronts_bind}
use Rattle.entry_steps.proofs.laws.fronts_hold_bindings.Goals as goal

pub returns : goal.returns
returns c = fronts_bind c.joins_hold_bindings.ensures
