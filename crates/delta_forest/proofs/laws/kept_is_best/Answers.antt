use Rattle.delta_forest.proofs.Bests.{kept_is_best}
use Rattle.delta_forest.proofs.laws.kept_is_best.Goals as goal

pub returns : goal.returns
returns c = kept_is_best
