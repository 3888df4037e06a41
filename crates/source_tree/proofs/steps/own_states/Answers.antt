use Rattle.std.proofs.Common.{arith}
use Rattle.source_tree.proofs.OwnStates.{covers_all, one_more}
use Rattle.source_tree.proofs.steps.own_states.Goals as goal

pub loop-k-preserved : goal.loop-k-preserved
loop-k-preserved c =
    one_more c.args.tree.now c.args.vertex c.loop-k.states.items c.add_if_there.new.states.items
    c.loop-k.k c.node_at.result c.loop-k.invariant c.node_at.ensures
    c.in_ok-add_if_there.ensures.kept c.in_ok-add_if_there.ensures.added

pub returns : goal.returns
returns c =
    covers_all c.args.tree.now c.args.vertex c.loop-k.states.items c.loop-k.k (omega arith)
    c.len-k-end.ensures.walk c.loop-k.invariant
