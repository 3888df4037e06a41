use Rattle.history_model.proofs.Safety.{core_safe}
use Rattle.history_model.proofs.world_laws.core_safe.Goals as goal

pub returns : goal.returns
returns c = core_safe c.held_step.ensures c.events_grow.ensures c.each_held_is_answers.ensures
