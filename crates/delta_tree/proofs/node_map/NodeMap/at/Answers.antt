use Rattle.delta_tree.proofs.Joined.{node_now, within_values}
use Rattle.delta_tree.proofs.node_map.NodeMap.at.Goals as goal

pub at-requires : goal.at-requires
at-requires c =
    within_values c.self.inside.values c.self.inside.rests.items c.self.invariant
    c.args.self.now c.self.view_is c.args.place c.requires

pub returns : goal.returns
returns c =
    node_now c.self.inside.values c.self.inside.rests.items c.self.invariant c.args.self.now
    c.self.view_is c.args.place c.at.result c.at.ensures
