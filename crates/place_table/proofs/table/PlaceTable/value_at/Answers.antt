use Rattle.std.proofs.Common.{Some, None, ap, ◌∙◌}
use Rattle.place_table.specs.Table.{TableValue, value_at}
use Rattle.place_table.proofs.Puts.{value_found}
use Rattle.place_table.proofs.table.PlaceTable.value_at.Goals as goal

pub returns-in-Some : goal.returns-in-Some
returns-in-Some c =
    value_found c.self.inside.puts c.self.inside.places c.args.root c.args.id
    (Some c.in-Some.kept) c.in-Some.ensures
    ∙ ap (λ (table : TableValue). value_at table c.args.root c.args.id) c.self.view_is

pub returns-in-None : goal.returns-in-None
returns-in-None c =
    value_found c.self.inside.puts c.self.inside.places c.args.root c.args.id None c.in-None.ensures
    ∙ ap (λ (table : TableValue). value_at table c.args.root c.args.id) c.self.view_is
