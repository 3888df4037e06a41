use Rattle.path_engine.proofs.Alike.{stands_alike}
use Rattle.path_engine.proofs.laws.stands_for_alike.Goals as goal

pub returns : goal.returns
returns c =
    stands_alike c.live_by_places.ensures c.edges_by_places.ensures c.live_below_deadline.ensures
