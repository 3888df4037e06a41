use Rattle.rpq_model.proofs.Places.{live_in_order}
use Rattle.rpq_model.proofs.window_laws.live_in_order.Goals as goal

pub returns : goal.returns
returns c = live_in_order
