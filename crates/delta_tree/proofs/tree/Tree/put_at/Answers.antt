use Rattle.std.proofs.Common.{ℕ, sym, subst, refl}
use Rattle.delta_tree.specs.Nodes.{TreeValue}
use Rattle.delta_tree.specs.Changes.{Carries, Puts, Raises}
use Rattle.delta_tree.proofs.Trees.{put_keeps}
use Rattle.delta_tree.proofs.tree.Tree.put_at.Goals as goal

pub invariant_of-self-2 : goal.invariant_of-self-2
invariant_of-self-2 c =
    let old : TreeValue = record {
      root = c.self.inside.root;
      nodes = c.self.inside.nodes;
      puts = c.self.inside.puts;
    } in
    let new : TreeValue = record {
      root = c.self.inside.root;
      nodes = c.set_node.new.nodes;
      puts = c.add_one.new.self;
    } in
    record {
      is_tree =
          put_keeps old new c.args.step c.args.value c.self.invariant.is_tree
          (subst (λ tree. Raises tree c.args.step.to c.args.value) (sym c.self.view_is)
          c.requires.raises)
          (subst (λ (stamp : ℕ). Puts old new c.args.step.to (record {
            value = c.args.value;
            parent = c.args.step.from;
            edge = c.args.step.edge;
            stamp = stamp;
          })) c.stamp.ensures c.in_ok-set_node.ensures.nodes) refl c.add_one.ensures
          (subst (λ tree. Carries tree c.args.step.from c.args.value) (sym c.self.view_is)
          c.requires.hangs.from)
          c.requires.hangs.state c.requires.hangs.joins c.ranges.value.fits;
      noted = c.in_ok-set_node.ensures.noted;
    }
