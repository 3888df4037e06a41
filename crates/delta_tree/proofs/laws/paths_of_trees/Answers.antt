use Rattle.delta_tree.proofs.TreeLaws as laws
use Rattle.delta_tree.proofs.laws.paths_of_trees.Goals as goal

pub returns : goal.returns
returns c = record {
  some = laws.each_node_has_a_path;
  one = laws.paths_are_one;
  walks = laws.paths_are_walks;
  below = laws.below_goes_by_parents;
}
