use Rattle.tree_delete.proofs.CutTrees.{removals_are_removals}
use Rattle.tree_delete.proofs.laws.removals_are_removals.Goals as goal

pub returns : goal.returns
returns c = removals_are_removals
