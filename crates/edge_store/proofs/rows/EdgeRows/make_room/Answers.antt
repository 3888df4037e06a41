use Rattle.std.proofs.Common.{ap, ◌∙◌}
use Rattle.edge_store.specs.Edges.{row}
use Rattle.edge_store.specs.Rows.{rows_of}
use Rattle.edge_store.proofs.RowChanges.{row_same}
use Rattle.edge_store.proofs.rows.EdgeRows.make_room.Goals as goal

pub returns-in_err-reserve-clause-same : goal.returns-in_err-reserve-clause-same
returns-in_err-reserve-clause-same c vertex =
    row_same c.place_or_new.new.slots.items c.place_or_new.new.rows.items c.args.vertex c.in_ok-at.at
    c.index_mut.result.now c.reserve.new.self c.in_ok-at.ensures.side c.in_ok-at.ensures.ok
    c.index_mut.ensures.value c.reserve.ensures.same vertex
    ∙ c.in_ok-at.ensures.same vertex
    ∙ ap (λ rows. row (rows_of rows) vertex) c.self.view_is

pub returns-clause-same : goal.returns-clause-same
returns-clause-same c vertex =
    row_same c.place_or_new.new.slots.items c.place_or_new.new.rows.items c.args.vertex c.in_ok-at.at
    c.index_mut.result.now c.reserve.new.self c.in_ok-at.ensures.side c.in_ok-at.ensures.ok
    c.index_mut.ensures.value c.reserve.ensures.same vertex
    ∙ c.in_ok-at.ensures.same vertex
    ∙ ap (λ rows. row (rows_of rows) vertex) c.self.view_is
