use Rattle.rpq_model.proofs.Places.{later_sees_less}
use Rattle.rpq_model.proofs.window_laws.later_sees_less.Goals as goal

pub returns : goal.returns
returns c = later_sees_less c.same_is_equal.ensures
