use Rattle.history_model.proofs.Safety.{steps_are_calls}
use Rattle.history_model.proofs.world_laws.steps_are_calls.Goals as goal

pub returns : goal.returns
returns c = steps_are_calls
