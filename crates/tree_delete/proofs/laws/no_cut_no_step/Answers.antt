use Rattle.tree_delete.proofs.CutTrees.{no_cut_no_step}
use Rattle.tree_delete.proofs.laws.no_cut_no_step.Goals as goal

pub returns : goal.returns
returns c = no_cut_no_step
