use Rattle.tree_insert.proofs.UnderWay.{no_rise_no_step}
use Rattle.tree_insert.proofs.laws.no_rise_no_step.Goals as goal

pub returns : goal.returns
returns c = no_rise_no_step
