use Rattle.rpq_model.proofs.OwnDeadlines.{inserts_have_deadlines}
use Rattle.rpq_model.proofs.own_end_laws.inserts_have_deadlines.Goals as goal

pub returns : goal.returns
returns c = inserts_have_deadlines
