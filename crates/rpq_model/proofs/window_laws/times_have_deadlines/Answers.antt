use Rattle.rpq_model.proofs.Deadlines.{times_have_deadlines}
use Rattle.rpq_model.proofs.window_laws.times_have_deadlines.Goals as goal

pub returns : goal.returns
returns c = times_have_deadlines
