use Rattle.tree_insert.proofs.Nodes.{carries_found}
use Rattle.tree_insert.proofs.offers.greatest_from.Goals as goal

pub returns-clause-carries : goal.returns-clause-carries
returns-clause-carries g c =
    carries_found (g.T.PathTree.tree c.args.tree.now) c.args.id c.value_of.result c.value_of.ensures
