use Rattle.std.proofs.Common.{ap, sym}
use Rattle.place_table.specs.Table.{TableValue, node_at}
use Rattle.place_table.proofs.Found.{ok_then}
use Rattle.place_table.proofs.Linked.{places_shown}
use Rattle.place_table.proofs.table.PlaceTable.places_of.Goals as goal

pub returns : goal.returns
returns c =
    ok_then c.add_ids_of.result c.add_ids_of.ensures.ids (λ is.
    places_shown c.self.inside.puts c.self.inside.places c.args.self.now c.args.root
    c.add_ids_of.new.ids.items
    (λ id. sym (ap (λ (t : TableValue). node_at t c.args.root id) c.self.view_is))
    is c.add_ids_of.ensures.once)
