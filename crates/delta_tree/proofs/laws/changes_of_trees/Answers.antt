use Rattle.delta_tree.proofs.TreeLaws as laws
use Rattle.delta_tree.proofs.laws.changes_of_trees.Goals as goal

pub returns : goal.returns
returns c = record { put = laws.puts_are_of_one_node; expiry = laws.expiry_goes_by_value }
