use Rattle.rpq_model.proofs.Places.{live_by_places}
use Rattle.rpq_model.proofs.window_laws.live_by_places.Goals as goal

pub returns : goal.returns
returns c = live_by_places c.same_is_equal.ensures
