use Rattle.std.proofs.Common.{[], sym, subst, ◌∙◌}
use Rattle.delta_tree.specs.Nodes.{TreeValue}
use Rattle.delta_tree.specs.Changes.{AreBelow}
use Rattle.delta_tree.proofs.Below.{none_below}
use Rattle.delta_tree.proofs.tree.Tree.below.Goals as goal

pub returns-then-not-has_edge : goal.returns-then-not-has_edge
returns-then-not-has_edge c =
    let tree : TreeValue = record {
      root = c.self.inside.root;
      nodes = c.self.inside.nodes;
      puts = c.self.inside.puts;
    } in
    subst (AreBelow c.args.self.now c.args.edge) (sym c.new.ensures.items)
    (subst (λ (value : TreeValue). AreBelow value c.args.edge []) c.self.view_is
    (none_below tree c.args.edge c.self.invariant.is_tree (sym c.if-not-has_edge.ensures)))

pub returns : goal.returns
returns c =
    subst (AreBelow c.args.self.now c.args.edge)
    (sym (c.in_ok-from_slice.ensures.items ∙ c.as_slice.ensures.keys))
    (record { exact = c.in_ok-below.ensures; once = c.as_slice.ensures.unique })
