use Rattle.std.proofs.Common.{subst}
use Rattle.delta_tree.specs.Nodes.{TreeValue, GivesNodes}
use Rattle.delta_tree.proofs.Ids.{gives_nodes}
use Rattle.delta_tree.proofs.tree.Tree.len.Goals as goal

pub returns-clause-walk : goal.returns-clause-walk
returns-clause-walk c =
    let tree : TreeValue = record {
      root = c.self.inside.root;
      nodes = c.self.inside.nodes;
      puts = c.self.inside.puts;
    } in
    subst GivesNodes c.self.view_is (gives_nodes tree c.len.ensures.once)
