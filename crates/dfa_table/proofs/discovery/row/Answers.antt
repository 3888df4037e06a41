use Rattle.std.proofs.Common.{length}
use Rattle.dfa_table.proofs.Walk.{grows_twice, row_kept, row_more, order_more}
use Rattle.dfa_table.proofs.discovery.row.Goals as goal

pub loop-label-preserved : goal.loop-label-preserved
loop-label-preserved g c =
    let graph = g.G.Walk.graph c.args.graph.now in
    let front = c.args.front in
    let start = c.args.nodes.now.items in
    let before = c.loop-label.nodes.items in
    let after = c.step.new.nodes.items in
    let row = c.loop-label.row.items in
    let step = c.in_ok-step.field-0 in
    let pushed = c.in_ok-push.ensures.items in
    let grows = c.step.ensures.nodes in
    let order = order_more row c.push.new.self.items step (length start) (length before) (length after) pushed
    c.loop-label.invariant.ordered c.loop-label.invariant.greatest c.in_ok-step.ensures.order c.in_ok-step.ensures.greatest in
    record {
      grows = grows_twice graph c.args.limit front start before after c.loop-label.invariant.grows grows;
      row = row_more graph after front c.loop-label.label row c.push.new.self.items step pushed
          (row_kept graph front c.loop-label.label row before after grows.longer grows.same c.loop-label.invariant.row)
          c.in_ok-step.ensures.step;
      ordered = order.0;
      greatest = order.1;
    }
