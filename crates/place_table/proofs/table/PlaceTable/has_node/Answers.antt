use Rattle.std.proofs.Common.{is_some, ap, ◌∙◌}
use Rattle.place_table.specs.Table.{TableValue, node_at}
use Rattle.place_table.proofs.Linked.{has_found}
use Rattle.place_table.proofs.table.PlaceTable.has_node.Goals as goal

pub returns : goal.returns
returns c =
    c.is_some.ensures
    ∙ has_found c.self.inside.puts c.self.inside.places c.args.root c.args.id c.get.result
    c.get.ensures
    ∙ ap (λ (table : TableValue). is_some (node_at table c.args.root c.args.id)) c.self.view_is
