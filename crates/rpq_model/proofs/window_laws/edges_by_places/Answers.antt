use Rattle.rpq_model.proofs.Places.{edges_by_places}
use Rattle.rpq_model.proofs.window_laws.edges_by_places.Goals as goal

pub returns : goal.returns
returns c = edges_by_places c.same_is_equal.ensures
