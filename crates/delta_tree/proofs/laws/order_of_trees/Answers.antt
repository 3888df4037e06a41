use Rattle.delta_tree.proofs.TreeLaws as laws
use Rattle.delta_tree.proofs.laws.order_of_trees.Goals as goal

pub returns : goal.returns
returns c = record { parents = laws.parents_come_first; root = laws.no_node_at_the_root }
