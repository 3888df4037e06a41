use Rattle.rpq_model.proofs.EndsOfInserts.{later_deadline_decides}
use Rattle.rpq_model.proofs.own_end_laws.later_deadline_decides.Goals as goal

pub returns : goal.returns
returns c = later_deadline_decides c.same_is_equal.ensures
