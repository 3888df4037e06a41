use Rattle.std.proofs.Common.{Some, slice_set, subst}
use Rattle.edge_store.specs.Rows.{rows_of, side, Writes}
use Rattle.edge_store.proofs.RowChanges.{place_is, writes}
use Rattle.edge_store.proofs.rows.EdgeRows.put.Goals as goal

pub returns : goal.returns
returns c =
    subst (λ rows. Writes (rows_of rows)
    (rows_of (side c.self.inside.slots.items (slice_set c.self.inside.rows.items c.in-Some.at c.put.new.self)))
    c.args.vertex c.args.half (Some c.args.value)) c.self.view_is
    (writes c.self.inside.slots.items c.self.inside.rows.items c.args.vertex c.in-Some.at
    c.index_mut-row.result.now c.put.new.self c.args.half (Some c.args.value) c.self.invariant.0
    (place_is c.self.inside.slots.items c.deref.result.now c.args.vertex c.locate.result
    (Some c.in-Some.at) c.deref.ensures.value c.locate.ensures c.in-Some.is)
    c.index_mut-row.ensures.value c.put.ensures)
