use Rattle.std.proofs.lemmas.Option.{slice_get_within}
use Rattle.delta_tree.proofs.Joined.{none_stays}
use Rattle.delta_tree.proofs.node_map.NodeMap.remove.Goals as goal

pub remove_at-requires : goal.remove_at-requires
remove_at-requires c =
    let (node, stands, found, is) = c.in-Some.ensures.spot in
    slice_get_within c.args.self.now c.in-Some.spot.place (c.args.id, node) stands

pub returns-in-Some : goal.returns-in-Some
returns-in-Some c each =
    let (node, stands, found, is) = c.in-Some.ensures.spot in
    c.remove_at.ensures c.args.id node stands each

pub returns-in_default : goal.returns-in_default
returns-in_default c each =
    none_stays c.args.self.now c.args.id each c.in_default.ensures.spot
