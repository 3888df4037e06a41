use Rattle.entry_steps.proofs.StepLists.{have_the_events}
use Rattle.entry_steps.proofs.laws.steps_have_the_events.Goals as goal

pub returns : goal.returns
returns c = have_the_events
