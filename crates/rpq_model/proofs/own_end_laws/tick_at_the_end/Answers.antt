use Rattle.rpq_model.proofs.EndsOfInserts.{tick_at_the_end}
use Rattle.rpq_model.proofs.own_end_laws.tick_at_the_end.Goals as goal

pub returns : goal.returns
returns c = tick_at_the_end c.same_is_equal.ensures
