use Rattle.std.proofs.Common.{◌≡◌, None, cond, length, sym, subst, refl}
use Rattle.std.proofs.lemmas.Bool.{eqb-true}
use Rattle.std.specs.List.{list_any}
use Rattle.delta_tree.specs.declared.node.NodeId.{NodeId}
use Rattle.delta_tree.specs.Nodes.{TreeValue, node_in, same_node}
use Rattle.delta_tree.specs.Changes.{AreBelow, Cuts}
use Rattle.delta_tree.proofs.Below.{nothing_cut, all_cut}
use Rattle.delta_tree.proofs.Trees.{cut_keeps}
use Rattle.delta_tree.proofs.tree.Tree.take.Goals as goal

pub returns-then-is_empty-clause-gone : goal.returns-then-is_empty-clause-gone
returns-then-is_empty-clause-gone c =
    nothing_cut c.args.self.now c.args.edge c.args.ids.now c.requires
    (eqb-true (length c.args.ids.now) 0 (sym c.if-is_empty.ensures))

-- the nodes that are left
left : (c : goal.After-forget_cut) (id : NodeId) → node_in c.take_out.new.nodes id
    ≡ cond (list_any (same_node id) c.args.ids.now) None
    (node_in c.self.inside.nodes id)
left c id = c.take_out.ensures id

pub invariant_of-self : goal.invariant_of-self
invariant_of-self c =
    let old : TreeValue = record {
      root = c.self.inside.root;
      nodes = c.self.inside.nodes;
      puts = c.self.inside.puts;
    } in
    let new : TreeValue = record {
      root = c.self.inside.root;
      nodes = c.take_out.new.nodes;
      puts =
          c.self.inside.puts;
    } in
    let below : AreBelow old c.args.edge c.args.ids.now =
    subst (λ (tree : TreeValue). AreBelow tree c.args.edge c.args.ids.now)
    (sym c.self.view_is) c.requires in
    record {
      is_tree =
          cut_keeps old new c.args.edge c.self.invariant.is_tree
          (all_cut old new c.args.edge c.args.ids.now below (left c))
          (record { root = refl; puts = refl });
      noted = c.forget_cut.ensures.noted;
    }

pub returns-clause-gone : goal.returns-clause-gone
returns-clause-gone c =
    let old : TreeValue = record {
      root = c.self.inside.root;
      nodes = c.self.inside.nodes;
      puts = c.self.inside.puts;
    } in
    let new : TreeValue = record {
      root = c.self.inside.root;
      nodes = c.take_out.new.nodes;
      puts =
          c.self.inside.puts;
    } in
    let below : AreBelow old c.args.edge c.args.ids.now =
    subst (λ (tree : TreeValue). AreBelow tree c.args.edge c.args.ids.now)
    (sym c.self.view_is) c.requires in
    subst (λ (tree : TreeValue). Cuts tree new c.args.edge) c.self.view_is
    (all_cut old new c.args.edge c.args.ids.now below (left c))
