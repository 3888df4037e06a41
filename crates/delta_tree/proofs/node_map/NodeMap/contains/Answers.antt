use Rattle.std.proofs.Common.{◌∙◌}
use Rattle.delta_tree.proofs.Joined.{has_now}
use Rattle.delta_tree.proofs.node_map.NodeMap.contains.Goals as goal

pub returns : goal.returns
returns c =
    c.is_some.ensures
    ∙ has_now c.self.inside.values c.self.inside.rests.items c.self.invariant c.args.self.now
    c.self.view_is c.args.id c.place_of.result c.place_of.ensures.place
