use Rattle.std.proofs.Common.{◌<◌, ◌++◌, ◌∷◌, [], sym, subst}
use Rattle.delta_tree.specs.Nodes.{node_of}
use Rattle.delta_tree.proofs.Ways.{GoesUp, goes_on, goes_all, height, parent_is_lower}
use Rattle.place_table.specs.declared.link.Link.{Link}
use Rattle.place_table.specs.Table.{tree_in}
use Rattle.place_table.proofs.Linked.{linked, not_linked}
use Rattle.place_table.proofs.table.PlaceTable.way_up.Goals as goal

pub loop-link-smaller : goal.loop-link-smaller
loop-link-smaller c =
    let tree = tree_in c.args.self.now c.args.root in
    let (node, is, its) = linked (node_of tree c.loop-link.at) c.in-Some.link c.in-Some.ensures in
    subst (λ (link : Link). height tree link.parent < height tree c.loop-link.at) its
    (parent_is_lower tree c.loop-link.at node (c.has_trees.ensures c.args.root) is)

pub loop-link-preserved : goal.loop-link-preserved
loop-link-preserved c =
    let tree = tree_in c.args.self.now c.args.root in
    let (node, is, its) = linked (node_of tree c.loop-link.at) c.in-Some.link c.in-Some.ensures in
    subst (GoesUp tree c.args.id c.in-Some.link.parent) (sym c.in_ok-push.ensures.items)
    (subst (λ (link : Link). GoesUp tree c.args.id link.parent
    (c.loop-link.up.items ++ link.edge ∷ [])) its
    (goes_on tree c.args.id c.loop-link.at c.loop-link.up.items node
    (c.has_trees.ensures c.args.root) c.loop-link.invariant is))

pub returns : goal.returns
returns c =
    let tree = tree_in c.args.self.now c.args.root in
    goes_all tree c.args.id c.loop-link.at c.loop-link.up.items c.loop-link.invariant
    (not_linked (node_of tree c.loop-link.at) c.in_default.ensures)
