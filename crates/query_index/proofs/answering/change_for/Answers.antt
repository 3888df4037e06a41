use Rattle.std.proofs.Common.{sym, ap, ◌∙◌}
use Rattle.rpq_base.specs.declared.data.Act.TheVariants.{Insert, Delete}
use Rattle.rpq_base.specs.declared.data.Entry.{Entry}
use Rattle.query_index.proofs.Choosing.{suits_same}
use Rattle.query_index.proofs.answering.change_for.Goals as goal

pub returns-in-Insert : goal.returns-in-Insert
returns-in-Insert c = λ names dfa.
    let entry = c.args.entry.now in
    suits_same names dfa c.args.clock.now entry.tuple.time _ entry.tuple.act
    (Insert c.in-Insert.edge c.in-Insert.until) c.args.id c.raise_for.result
    (ap (λ (each : Entry). each.tuple.time) c.entry.view_is)
    (sym c.in-Insert.is ∙ ap (λ (each : Entry). each.tuple.act) c.entry.view_is)
    (c.raise_for.ensures names dfa c.in-Insert.edge)

pub returns-in-Delete : goal.returns-in-Delete
returns-in-Delete c = λ names dfa.
    let entry = c.args.entry.now in
    suits_same names dfa c.args.clock.now entry.tuple.time entry.tuple.time entry.tuple.act
    (Delete c.in-Delete.field-0) c.args.id c.remove_for.result (λ i. entry.tuple.time)
    (sym c.in-Delete.is ∙ ap (λ (each : Entry). each.tuple.act) c.entry.view_is)
    (λ is. c.remove_for.ensures names dfa c.in-Delete.field-0 is c.args.clock.now entry.tuple.time)
