use Rattle.std.proofs.Common.{sym, subst}
use Rattle.delta_tree.specs.Changes.{AreBelow, Cuts}
use Rattle.place_table.specs.Links.{IsSameBesideShown}
use Rattle.place_table.specs.Sound.{tree_kept}
use Rattle.place_table.specs.Table.{TableValue, tree_in}
use Rattle.place_table.proofs.Beside.{cut_sound, cuts_seen, table_kept, beside_kept}
use Rattle.place_table.proofs.table.PlaceTable.take.Goals as goal

pub invariant_of-self : goal.invariant_of-self
invariant_of-self c =
    cut_sound c.self.inside.puts c.self.inside.places c.take_out.new.places c.self.inside.root
    c.take_out.ensures.others c.args.ids.now c.take_out.ensures.own c.args.edge
    c.self.inside.dues.items
    (subst (λ (t : TableValue). AreBelow (tree_in t t.root) c.args.edge c.args.ids.now)
    (sym c.self.view_is) c.requires) c.self.invariant

pub returns-clause-gone : goal.returns-clause-gone
returns-clause-gone c =
    subst (λ (t : TableValue). Cuts (tree_in t t.root)
    (tree_kept c.self.inside.puts c.take_out.new.places c.self.inside.root) c.args.edge)
    c.self.view_is
    (cuts_seen c.self.inside.puts c.self.inside.places c.take_out.new.places c.self.inside.root
    c.take_out.ensures.others c.args.ids.now c.take_out.ensures.own c.args.edge
    (subst (λ (t : TableValue). AreBelow (tree_in t t.root) c.args.edge c.args.ids.now)
    (sym c.self.view_is) c.requires))

pub returns-clause-beside : goal.returns-clause-beside
returns-clause-beside c =
    subst (λ (t : TableValue). IsSameBesideShown t (table_kept c.self.inside.root
    c.self.inside.puts c.take_out.new.places c.self.inside.marks)) c.self.view_is
    (beside_kept c.self.inside.root c.self.inside.puts c.self.inside.places c.take_out.new.places
    c.self.inside.marks c.take_out.ensures.others)
