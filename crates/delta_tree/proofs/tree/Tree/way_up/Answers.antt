use Rattle.std.proofs.Common.{◌<◌, ◌++◌, ◌∷◌, [], option_map, sym, ap, subst, ◌∙◌}
use Rattle.delta_tree.specs.declared.node.Link.{Link}
use Rattle.delta_tree.specs.Nodes.{TreeValue, node_of, IsTree}
use Rattle.delta_tree.specs.Spots.{link_of}
use Rattle.delta_tree.proofs.Links.{linked, not_linked}
use Rattle.delta_tree.proofs.Ways.{GoesUp, goes_on, goes_all, height, parent_is_lower}
use Rattle.delta_tree.proofs.tree.Tree.way_up.Goals as goal

pub loop-link-smaller : goal.loop-link-smaller
loop-link-smaller c =
    let (node, is, its) = linked (node_of c.args.self.now c.loop-link.at) c.in-Some.link
    (sym (ap (λ (tree : TreeValue). option_map link_of (node_of tree c.loop-link.at))
    c.self.view_is) ∙ sym c.get.ensures ∙ c.in-Some.is) in
    subst (λ (link : Link). height c.args.self.now link.parent
    < height c.args.self.now c.loop-link.at) its
    (parent_is_lower c.args.self.now c.loop-link.at node
    (subst IsTree c.self.view_is c.self.invariant.is_tree) is)

pub loop-link-preserved : goal.loop-link-preserved
loop-link-preserved c =
    let (node, is, its) = linked (node_of c.args.self.now c.loop-link.at) c.in-Some.link
    (sym (ap (λ (tree : TreeValue). option_map link_of (node_of tree c.loop-link.at))
    c.self.view_is) ∙ sym c.get.ensures ∙ c.in-Some.is) in
    subst (GoesUp c.args.self.now c.args.id c.in-Some.link.parent)
    (sym c.in_ok-push.ensures.items)
    (subst (λ (link : Link). GoesUp c.args.self.now c.args.id link.parent
    (c.loop-link.up.items ++ link.edge ∷ [])) its
    (goes_on c.args.self.now c.args.id c.loop-link.at c.loop-link.up.items node
    (subst IsTree c.self.view_is c.self.invariant.is_tree) c.loop-link.invariant is))

pub returns : goal.returns
returns c =
    goes_all c.args.self.now c.args.id c.loop-link.at c.loop-link.up.items c.loop-link.invariant
    (not_linked (node_of c.args.self.now c.loop-link.at)
    (sym (ap (λ (tree : TreeValue). option_map link_of (node_of tree c.loop-link.at))
    c.self.view_is) ∙ sym c.get.ensures ∙ c.in_default.is))
