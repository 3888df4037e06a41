use Rattle.std.proofs.Common.{subst}
use Rattle.place_table.specs.Links.{IsSameBesideShown}
use Rattle.place_table.specs.Table.{TableValue}
use Rattle.place_table.proofs.Beside.{none_sound, none_shown, table_kept, beside_kept}
use Rattle.place_table.proofs.table.PlaceTable.take_shown.Goals as goal

pub invariant_of-self : goal.invariant_of-self
invariant_of-self c =
    none_sound c.self.inside.puts c.self.inside.places c.take_all.new.places c.self.inside.root
    c.take_all.ensures.others c.self.inside.dues.items c.take_all.ensures.own c.self.invariant

pub returns-clause-empty : goal.returns-clause-empty
returns-clause-empty c id =
    none_shown c.self.inside.puts c.take_all.new.places c.self.inside.root id
    (c.take_all.ensures.own id)

pub returns-clause-beside : goal.returns-clause-beside
returns-clause-beside c =
    subst (λ (t : TableValue). IsSameBesideShown t (table_kept c.self.inside.root
    c.self.inside.puts c.take_all.new.places c.self.inside.marks)) c.self.view_is
    (beside_kept c.self.inside.root c.self.inside.puts c.self.inside.places c.take_all.new.places
    c.self.inside.marks c.take_all.ensures.others)
