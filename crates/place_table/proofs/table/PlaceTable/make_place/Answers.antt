use Rattle.std.proofs.Common.{ap, ◌∙◌}
use Rattle.place_table.specs.Table.{TableValue, tree_in}
use Rattle.place_table.proofs.Raised.{if_ok_then, sound_same, there_number}
use Rattle.place_table.proofs.Seen.{seen_same}
use Rattle.place_table.proofs.table.PlaceTable.make_place.Goals as goal

pub invariant_of-self : goal.invariant_of-self
invariant_of-self c =
    sound_same c.self.inside.puts c.self.inside.places c.make.new.self c.self.inside.dues.items
    c.make.ensures.same c.self.invariant

pub returns-clause-number : goal.returns-clause-number
returns-clause-number c =
    if_ok_then c.make.result c.make.ensures.there
    (there_number c.self.inside.puts c.make.new.self c.args.id)

pub returns-clause-trees : goal.returns-clause-trees
returns-clause-trees c each =
    seen_same c.self.inside.puts c.self.inside.places c.make.new.self c.make.ensures.same each
    ∙ ap (λ (table : TableValue). tree_in table each) c.self.view_is
