use Rattle.std.proofs.Common.{length, sym, ap, ◌∙◌}
use Rattle.delta_tree.proofs.Joined.{joined_length, once_now}
use Rattle.delta_tree.proofs.node_map.NodeMap.len.Goals as goal

pub returns-clause-count : goal.returns-clause-count
returns-clause-count c =
    c.len.ensures.count
    ∙ sym (joined_length c.self.inside.values c.self.inside.rests.items c.self.invariant.even)
    ∙ ap length c.self.view_is

pub returns-clause-once : goal.returns-clause-once
returns-clause-once c =
    once_now c.self.inside.values c.self.inside.rests.items c.self.invariant c.args.self.now
    c.self.view_is
