use Rattle.std.proofs.Common.{Some, None, option_map, ap, ◌∙◌}
use Rattle.delta_tree.specs.declared.node.Node.{Node}
use Rattle.place_table.specs.Links.{link_of}
use Rattle.place_table.specs.Table.{TableValue, node_at}
use Rattle.place_table.proofs.Linked.{link_found, link_made}
use Rattle.place_table.proofs.table.PlaceTable.link_at.Goals as goal

pub returns-in-Some : goal.returns-in-Some
returns-in-Some c =
    link_made c.args.id c.in-Some.kept c.edge_of.result c.edge_of.ensures
    ∙ link_found c.self.inside.puts c.self.inside.places c.args.root c.args.id
    (Some c.in-Some.kept) c.in-Some.ensures
    ∙ ap (λ (table : TableValue). option_map (λ (node : Node). link_of node)
    (node_at table c.args.root c.args.id)) c.self.view_is

pub returns-in-None : goal.returns-in-None
returns-in-None c =
    link_found c.self.inside.puts c.self.inside.places c.args.root c.args.id None
    c.in-None.ensures
    ∙ ap (λ (table : TableValue). option_map (λ (node : Node). link_of node)
    (node_at table c.args.root c.args.id)) c.self.view_is
