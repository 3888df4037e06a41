use Rattle.std.proofs.Common.{Contains, subst}
use Rattle.place_table.specs.Table.{TableValue}
use Rattle.place_table.proofs.table.PlaceTable.is_marked.Goals as goal

pub returns-in-Some : goal.returns-in-Some
returns-in-Some c told =
    subst (λ (table : TableValue). Contains table.marked c.args.id) c.self.view_is
    (c.is_marked.ensures told)
