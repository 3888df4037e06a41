use Rattle.rpq_model.proofs.EndsOfInserts.{live_below_its_end}
use Rattle.rpq_model.proofs.own_end_laws.live_below_its_end.Goals as goal

pub returns : goal.returns
returns c = live_below_its_end c.same_is_equal.ensures
