use Rattle.due_queue.specs.Queue.{due}
use Rattle.edge_store.specs.Rows.{rows_of, sides}
use Rattle.edge_store.proofs.Noted.{noted_after}
use Rattle.edge_store.proofs.Sides.{keeps_above, expires}
use Rattle.edge_store.proofs.store.EdgeStore.expire.Goals as goal

pub loop-next-preserved : goal.loop-next-preserved
loop-next-preserved c =
    let old = sides (rows_of c.loop-next.self-inside.outs) (rows_of c.loop-next.self-inside.ins) in
    let new = sides (rows_of c.drop_due.new.outs) (rows_of c.drop_due.new.ins) in
    record {
      store = record {
        agree = c.drop_due.ensures.agree;
        noted = noted_after old new c.loop-next.self-inside.dues.items c.next_due.new.self.items c.in-Some.next c.args.now
            c.loop-next.invariant.store.noted c.in-Some.ensures.next.taken c.in-Some.ensures.next.reached c.drop_due.ensures.updates;
      };
      kept = keeps_above c.args.now c.args.self.now old new c.in-Some.next.item c.loop-next.invariant.kept c.drop_due.ensures.updates;
    }

pub returns : goal.returns
returns c =
    let last = sides (rows_of c.loop-next.self-inside.outs) (rows_of c.loop-next.self-inside.ins) in
    expires c.args.now c.args.self.now last c.loop-next.invariant.kept
    (λ edge value is. c.in_default.ensures.later (due edge value) (c.loop-next.invariant.store.noted edge value is))
