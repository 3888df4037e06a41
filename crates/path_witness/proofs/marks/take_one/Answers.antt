use Rattle.std.proofs.Common.{sym, ap, ◌∙◌}
use Rattle.indexmap.proofs.MapLemmas.{OnOk-map}
use Rattle.rpq_base.specs.declared.data.Entry.{Entry}
use Rattle.rpq_model.specs.Window.{Inserts, inserted_edge}
use Rattle.path_witness.proofs.Keeping.{takes_insert, takes_delete, takes_tick}
use Rattle.path_witness.proofs.marks.take_one.Goals as goal

pub returns-in-Insert-clause-taken : goal.returns-in-Insert-clause-taken
returns-in-Insert-clause-taken c =
    let entry = c.args.entry.now in
    let inserts : Inserts entry.tuple.act c.in-Insert.edge =
    ap (λ (each : Entry). inserted_edge each.tuple.act) (sym c.entry.view_is) ∙ ap inserted_edge c.in-Insert.is in
    OnOk-map c.raise.result _ _
    (λ raised.
    takes_insert c.args.queries.now c.args.position entry c.in-Insert.edge raised.0 c.args.rows.now.entries c.raise.new.rows.entries
    inserts raised.1 raised.2)
    c.raise.ensures.raised

pub returns-in-Delete-clause-taken : goal.returns-in-Delete-clause-taken
returns-in-Delete-clause-taken c =
    takes_delete c.args.queries.now c.args.position c.args.entry.now c.in-Delete.edge c.args.rows.now.entries c.remove.new.rows.entries
    (ap (λ (each : Entry). each.tuple.act) (sym c.entry.view_is) ∙ c.in-Delete.is) c.remove.ensures

pub returns-in-Tick-clause-taken : goal.returns-in-Tick-clause-taken
returns-in-Tick-clause-taken c =
    takes_tick c.args.queries.now c.args.position c.args.entry.now c.args.rows.now.entries
    (ap (λ (each : Entry). each.tuple.act) (sym c.entry.view_is) ∙ c.in-Tick.is)
