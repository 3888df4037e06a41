use Rattle.std.proofs.Common.{◌<◌, option_map, sym, ap, subst, ◌∙◌, true≢false}
use Rattle.edge_store.specs.Edges.{same_edge}
use Rattle.delta_tree.specs.declared.node.Link.{Link}
use Rattle.delta_tree.specs.Nodes.{TreeValue, node_of, IsTree}
use Rattle.delta_tree.specs.Spots.{link_of}
use Rattle.delta_tree.proofs.Ids.{same_edge_is, same_edge_itself}
use Rattle.delta_tree.proofs.Links.{linked, not_linked, below_here, below_next, none_is_below}
use Rattle.delta_tree.proofs.Ways.{height, parent_is_lower}
use Rattle.delta_tree.proofs.tree.Tree.is_below.Goals as goal

pub loop-link-smaller : goal.loop-link-smaller
loop-link-smaller c =
    let (node, is, its) = linked (node_of c.args.self.now c.loop-link.at) c.in-Some.link
    (sym (ap (λ (tree : TreeValue). option_map link_of (node_of tree c.loop-link.at))
    c.self.view_is) ∙ sym c.get.ensures ∙ c.in-Some.is) in
    subst (λ (link : Link). height c.args.self.now link.parent
    < height c.args.self.now c.loop-link.at) its
    (parent_is_lower c.args.self.now c.loop-link.at node
    (subst IsTree c.self.view_is c.self.invariant.is_tree) is)

pub loop-link-preserved : goal.loop-link-preserved
loop-link-preserved c =
    let next = below_next c.args.self.now c.loop-link.at c.in-Some.link
    (sym (ap (λ (tree : TreeValue). option_map link_of (node_of tree c.loop-link.at))
    c.self.view_is) ∙ sym c.get.ensures ∙ c.in-Some.is)
    c.args.edge (subst IsTree c.self.view_is c.self.invariant.is_tree)
    (λ same. true≢false
    (sym (ap (λ edge. same_edge edge c.args.edge) same ∙ same_edge_itself c.args.edge)
    ∙ sym c.eq.ensures ∙ c.if-eq.false)) in (
      λ below. c.loop-link.invariant.0 (next.0 below),
      λ below. next.1 (c.loop-link.invariant.1 below),
    )

pub returns-then-eq : goal.returns-then-eq
returns-then-eq c = (
  (λ _. c.loop-link.invariant.0 (below_here c.args.self.now c.loop-link.at c.in-Some.link
      (sym (ap (λ (tree : TreeValue). option_map link_of (node_of tree c.loop-link.at))
      c.self.view_is) ∙ sym c.get.ensures ∙ c.in-Some.is)
      c.args.edge (subst IsTree c.self.view_is c.self.invariant.is_tree)
      (same_edge_is c.in-Some.link.edge c.args.edge (sym c.eq.ensures ∙ c.if-eq.true)))),
  (λ _. cc),
)

pub returns : goal.returns
returns c = (
  (λ same. absurd cc),
  (λ below. absurd (none_is_below c.args.self.now c.loop-link.at c.args.edge
      (not_linked (node_of c.args.self.now c.loop-link.at)
      (sym (ap (λ (tree : TreeValue). option_map link_of (node_of tree c.loop-link.at))
      c.self.view_is) ∙ sym c.get.ensures ∙ c.in_default.is))
      (c.loop-link.invariant.1 below))),
)
