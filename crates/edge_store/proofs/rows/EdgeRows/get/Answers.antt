use Rattle.std.proofs.Common.{None, Some, sym}
use Rattle.std.specs.List.{IsDistinct}
use Rattle.edge_store.proofs.RowChanges.{place_is, row_there, row_none}
use Rattle.edge_store.proofs.rows.EdgeRows.get.Goals as goal

pub returns-in-Some-clause-row : goal.returns-in-Some-clause-row
returns-in-Some-clause-row c =
    sym (row_there c.self.inside.slots.items c.self.inside.rows.items c.args.self.now c.args.vertex
    c.in-Some.at c.index-row.result.now c.self.view_is c.self.invariant.0
    (place_is c.self.inside.slots.items c.deref.result.now c.args.vertex c.locate.result
    (Some c.in-Some.at) c.deref.ensures.value c.locate.ensures c.in-Some.is)
    c.index-row.ensures)

pub returns-in-None-clause-row : goal.returns-in-None-clause-row
returns-in-None-clause-row c =
    sym (row_none c.self.inside.slots.items c.self.inside.rows.items c.args.self.now c.args.vertex
    c.self.view_is
    (place_is c.self.inside.slots.items c.deref.result.now c.args.vertex c.locate.result None
    c.deref.ensures.value c.locate.ensures c.in-None.is))

pub returns-in-None-clause-once : goal.returns-in-None-clause-once
unfolding IsDistinct
returns-in-None-clause-once c = tt
