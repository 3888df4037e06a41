use Rattle.std.proofs.Common.{length, slice_set, subst, vec_len, ap, ◌∙◌, sym, take, ◌-◌, arith}
use Rattle.std.proofs.lemmas.List.{length-take-le}
use Rattle.edge_store.specs.Rows.{AreNumbered}
use Rattle.edge_store.proofs.Numbered.{numbered_less}
use Rattle.edge_store.proofs.RowChanges.{dropped, has_slot}
use Rattle.edge_store.proofs.rows.drop_last.Goals as goal

pub returns-clause-side : goal.returns-clause-side
returns-clause-side c =
    (dropped c.args.slots.now.items c.args.rows.now.items c.pop.new.self.items c.args.vertex
    (vec_len c.args.rows.now) (omega (arith, c.args.rows.now.ok.0)) c.pop.ensures.rest
    c.requires.side c.requires.bare).0

pub returns-clause-same : goal.returns-clause-same
returns-clause-same c =
    (dropped c.args.slots.now.items c.args.rows.now.items c.pop.new.self.items c.args.vertex
    (vec_len c.args.rows.now) (omega (arith, c.args.rows.now.ok.0)) c.pop.ensures.rest
    c.requires.side c.requires.bare).1

pub returns-clause-numbered : goal.returns-clause-numbered
returns-clause-numbered c =
    let slots = c.args.slots.now.items in
    let rows = c.args.rows.now.items in
    let last = length rows - 1 in
    subst (AreNumbered (slice_set slots c.args.vertex 0))
    (sym (ap length c.pop.ensures.rest
    ∙ length-take-le (vec_len c.args.rows.now - 1) rows (omega (arith, c.args.rows.now.ok.0))
    ∙ omega (arith, c.args.rows.now.ok.0)))
    (numbered_less slots (length rows) c.args.vertex last c.requires.numbered
    c.requires.bare.there (has_slot slots c.args.vertex last c.requires.bare.there))
