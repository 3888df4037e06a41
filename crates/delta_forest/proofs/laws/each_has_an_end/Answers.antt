use Rattle.delta_forest.proofs.Ends.{each_has_an_end}
use Rattle.delta_forest.proofs.laws.each_has_an_end.Goals as goal

pub returns : goal.returns
returns c = each_has_an_end
