use Rattle.tree_delete.proofs.CutTrees.{removal_elsewhere_keeps_optimal}
use Rattle.tree_delete.proofs.laws.removal_elsewhere_keeps_optimal.Goals as goal

pub returns : goal.returns
returns c = removal_elsewhere_keeps_optimal
