use Rattle.std.proofs.Common.{arith}
use Rattle.state_pairs.proofs.Marks.{one_marked}
use Rattle.state_pairs.proofs.search.mark_all.Goals as goal

pub loop-node-preserved : goal.loop-node-preserved
loop-node-preserved c =
    one_marked c.args.nodes.now c.loop-node.node-index 0 c.args.level c.args.levels.now c.loop-node.levels c.mark.new.levels
    c.args.found.now.items c.loop-node.found.items c.mark.new.found.items (omega (arith, c.loop-node-test.true)) c.loop-node.invariant c.in_ok-mark.ensures
