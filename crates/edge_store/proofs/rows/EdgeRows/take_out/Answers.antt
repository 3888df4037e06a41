use Rattle.std.proofs.Common.{None, Some, slice_set, sym, ap, subst, ◌∙◌}
use Rattle.std.specs.Map.{lookup}
use Rattle.edge_store.specs.Edges.{same_half}
use Rattle.edge_store.specs.Rows.{rows_of, side, Writes}
use Rattle.edge_store.proofs.RowChanges.{place_is, row_there, row_none, writes, writes_none}
use Rattle.edge_store.proofs.rows.EdgeRows.take_out.Goals as goal

pub returns-in-Some-clause-value : goal.returns-in-Some-clause-value
returns-in-Some-clause-value c =
    c.take-value.ensures.value
    ∙ ap (lookup (same_half c.args.half))
    (sym (row_there c.self.inside.slots.items c.self.inside.rows.items c.args.self.now c.args.vertex
    c.in-Some.at c.index_mut-row.result.now c.self.view_is c.self.invariant.0
    (place_is c.self.inside.slots.items c.deref.result.now c.args.vertex c.locate.result
    (Some c.in-Some.at) c.deref.ensures.value c.locate.ensures c.in-Some.is)
    c.index_mut-row.ensures.value))

pub returns-in-Some-clause-rest : goal.returns-in-Some-clause-rest
returns-in-Some-clause-rest c =
    subst (λ rows. Writes (rows_of rows)
    (rows_of (side c.self.inside.slots.items (slice_set c.self.inside.rows.items c.in-Some.at c.take-value.new.self)))
    c.args.vertex c.args.half None) c.self.view_is
    (writes c.self.inside.slots.items c.self.inside.rows.items c.args.vertex c.in-Some.at
    c.index_mut-row.result.now c.take-value.new.self c.args.half None c.self.invariant.0
    (place_is c.self.inside.slots.items c.deref.result.now c.args.vertex c.locate.result
    (Some c.in-Some.at) c.deref.ensures.value c.locate.ensures c.in-Some.is)
    c.index_mut-row.ensures.value c.take-value.ensures.rest)

pub returns-in-None-clause-value : goal.returns-in-None-clause-value
returns-in-None-clause-value c =
    ap (lookup (same_half c.args.half))
    (sym (row_none c.self.inside.slots.items c.self.inside.rows.items c.args.self.now c.args.vertex
    c.self.view_is
    (place_is c.self.inside.slots.items c.deref.result.now c.args.vertex c.locate.result None
    c.deref.ensures.value c.locate.ensures c.in-None.is)))

pub returns-in-None-clause-rest : goal.returns-in-None-clause-rest
returns-in-None-clause-rest c =
    subst (λ rows. Writes (rows_of rows) (rows_of rows) c.args.vertex c.args.half None)
    c.self.view_is
    (writes_none c.self.inside.slots.items c.self.inside.rows.items c.args.vertex c.args.half
    (place_is c.self.inside.slots.items c.deref.result.now c.args.vertex c.locate.result None
    c.deref.ensures.value c.locate.ensures c.in-None.is))
