use Rattle.std.proofs.Common.{refl, ◌∙◌}
use Rattle.place_table.specs.Table.{nodes_of}
use Rattle.place_table.proofs.Linked.{id_found, some_behind}
use Rattle.place_table.proofs.shown.PlaceTablePathTree.node_at.Goals as goal

pub unreachable-requires : goal.unreachable-requires
unreachable-requires c =
    some_behind (nodes_of c.args.self.now.places c.args.self.now.root) c.args.k c.requires.within
    (id_found c.self.inside.puts c.self.inside.places c.args.self.now _ c.args.k
    c.id_behind.result c.self.view_is refl c.id_behind.ensures ∙ c.in-None.is)

pub returns : goal.returns
returns c =
    id_found c.self.inside.puts c.self.inside.places c.args.self.now _ c.args.k
    c.id_behind.result c.self.view_is refl c.id_behind.ensures ∙ c.in-Some.is
