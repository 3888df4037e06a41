use Rattle.std.proofs.Common.{None, Some, sym, ap, ◌∙◌}
use Rattle.std.specs.Map.{lookup}
use Rattle.edge_store.specs.Edges.{same_half}
use Rattle.edge_store.proofs.RowChanges.{place_is, row_there, row_none}
use Rattle.edge_store.proofs.rows.EdgeRows.find.Goals as goal

pub returns-in-Some : goal.returns-in-Some
returns-in-Some c =
    c.get.ensures
    ∙ ap (lookup (same_half c.args.half))
    (sym (row_there c.self.inside.slots.items c.self.inside.rows.items c.args.self.now c.args.vertex
    c.in-Some.at c.index.result.now c.self.view_is c.self.invariant.0
    (place_is c.self.inside.slots.items c.deref.result.now c.args.vertex c.locate.result
    (Some c.in-Some.at) c.deref.ensures.value c.locate.ensures c.in-Some.is)
    c.index.ensures))

pub returns-in-None : goal.returns-in-None
returns-in-None c =
    ap (lookup (same_half c.args.half))
    (sym (row_none c.self.inside.slots.items c.self.inside.rows.items c.args.self.now c.args.vertex
    c.self.view_is
    (place_is c.self.inside.slots.items c.deref.result.now c.args.vertex c.locate.result None
    c.deref.ensures.value c.locate.ensures c.in-None.is)))
