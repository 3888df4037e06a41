use Rattle.rpq_model.proofs.Places.{live_below_deadline}
use Rattle.rpq_model.proofs.window_laws.live_below_deadline.Goals as goal

pub returns : goal.returns
returns c = live_below_deadline c.same_is_equal.ensures
