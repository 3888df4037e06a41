use Rattle.rpq_model.proofs.AllEvents.{each_held_is_answers}
use Rattle.rpq_model.proofs.event_laws.each_held_is_answers.Goals as goal

pub returns : goal.returns
returns c = each_held_is_answers c.same_is_equal.ensures
