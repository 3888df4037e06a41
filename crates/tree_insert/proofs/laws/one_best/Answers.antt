use Rattle.tree_insert.proofs.Bests.{one_best}
use Rattle.tree_insert.proofs.laws.one_best.Goals as goal

pub returns : goal.returns
returns c = one_best
