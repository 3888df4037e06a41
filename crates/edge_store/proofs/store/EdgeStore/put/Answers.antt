use Rattle.std.proofs.Common.{Some, subst}
use Rattle.edge_store.specs.Edges.{out_half, in_half}
use Rattle.edge_store.specs.Rows.{rows_of, sides, Writes}
use Rattle.edge_store.proofs.Noted.{noted_put}
use Rattle.edge_store.proofs.Sides.{agree_after, updates_after, writes_same}
use Rattle.edge_store.proofs.store.EdgeStore.put.Goals as goal

pub invariant_of-self-2 : goal.invariant_of-self-2
invariant_of-self-2 c =
    let outs = rows_of c.self.inside.outs in
    let outs' = rows_of c.put.new.self in
    let ins = rows_of c.self.inside.ins in
    let ins' = rows_of c.put-2.new.self in
    let edge = c.args.edge in
    let value = Some c.args.value in
    let out_writes = writes_same outs (rows_of c.make_room.new.outs) outs' edge.from
    (out_half edge) value c.make_room.ensures.same_outs
    (subst (λ half. Writes (rows_of c.make_room.new.outs) outs' edge.from half value)
    c.out_half.ensures c.put.ensures) in
    let in_writes = writes_same ins (rows_of c.make_room.new.ins) ins' edge.to
    (in_half edge) value c.make_room.ensures.same_ins
    (subst (λ half. Writes (rows_of c.make_room.new.ins) ins' edge.to half value)
    c.in_half.ensures c.put-2.ensures) in
    record {
      agree = agree_after outs outs' ins ins' edge value c.self.invariant.agree out_writes in_writes;
      noted = noted_put (sides outs ins) (sides outs' ins') c.self.inside.dues.items
          c.note.new.self.items edge c.args.value c.self.invariant.noted
          c.in_ok-note.ensures.noted
          (updates_after outs outs' ins ins' edge value out_writes);
    }
