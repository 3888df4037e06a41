use Rattle.std.proofs.Common.{ap, sym}
use Rattle.place_table.specs.Table.{TableValue, node_at}
use Rattle.place_table.proofs.Chosen.{states_are}
use Rattle.place_table.proofs.table.PlaceTable.states_at.Goals as goal

pub returns-clause-states : goal.returns-clause-states
returns-clause-states c =
    states_are c.self.inside.puts c.self.inside.places c.args.self.now c.args.vertex
    c.add_states.new.states.items c.put_in_order.new.numbers.items
    (λ root id. sym (ap (λ (t : TableValue). node_at t root id) c.self.view_is))
    c.in_ok-add_states.ensures c.put_in_order.ensures
