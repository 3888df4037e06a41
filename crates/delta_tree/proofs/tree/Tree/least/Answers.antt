use Rattle.std.proofs.Common.{◌≡◌, [], subst}
use Rattle.std.specs.Prelude.{IfNone, IfSome}
use Rattle.delta_tree.specs.Nodes.{TreeValue}
use Rattle.delta_tree.specs.Changes.{IsFloor}
use Rattle.delta_tree.proofs.Queue.{none_of, floor_of}
use Rattle.delta_tree.proofs.tree.Tree.least.Goals as goal

pub returns-clause-none : goal.returns-clause-none
returns-clause-none c =
    subst (λ (tree : TreeValue). IfNone c.first_due.result (tree.nodes ≡ [])) c.self.view_is
    (none_of c.self.inside.nodes c.self.inside.dues.items c.first_due.result
    c.self.invariant.noted c.first_due.ensures.none)

pub returns-clause-floor : goal.returns-clause-floor
returns-clause-floor c =
    let tree : TreeValue = record {
      root = c.self.inside.root;
      nodes = c.self.inside.nodes;
      puts = c.self.inside.puts;
    } in
    subst (λ (tree : TreeValue). IfSome c.first_due.result (IsFloor tree)) c.self.view_is
    (floor_of tree c.self.inside.dues.items c.first_due.result c.self.invariant.noted
    c.first_due.ensures.least)
