use Rattle.tree_delete.proofs.CutTrees.{few_edges_few_steps, steps_are_within_cut}
use Rattle.tree_delete.proofs.laws.steps_are_within_cut.Goals as goal

pub returns-clause-within : goal.returns-clause-within
returns-clause-within c = steps_are_within_cut

pub returns-clause-few : goal.returns-clause-few
returns-clause-few c = few_edges_few_steps
