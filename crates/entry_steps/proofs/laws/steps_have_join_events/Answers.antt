use Rattle.entry_steps.proofs.JoinedSteps.{have_join_events}
use Rattle.entry_steps.proofs.laws.steps_have_join_events.Goals as goal

pub returns : goal.returns
returns c = have_join_events
