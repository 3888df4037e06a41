use Rattle.std.proofs.Common.{sym, ap, subst, ◌∙◌}
use Rattle.delta_tree.specs.Changes.{AreShifts, shift_ids}
use Rattle.place_table.specs.Table.{tree_in}
use Rattle.place_table.proofs.Beside.{ids_of_losses, cut_shifts, beside_same}
use Rattle.place_table.proofs.shown.PlaceTablePathTree.cut_nodes.Goals as goal

pub returns-clause-places : goal.returns-clause-places
returns-clause-places c =
    ap shift_ids c.in_ok-shifts.ensures
    ∙ ids_of_losses (tree_in c.args.self.now c.args.self.now.root).nodes c.args.ids.now

pub returns-clause-shifts : goal.returns-clause-shifts
returns-clause-shifts c =
    let old = tree_in c.args.self.now c.args.self.now.root in
    let new = tree_in c.take.new.self c.take.new.self.root in
    subst (AreShifts old new) (sym c.in_ok-shifts.ensures)
    (cut_shifts old new c.args.edge c.args.ids.now c.requires c.take.ensures.gone)

pub returns-clause-same : goal.returns-clause-same
returns-clause-same c = record {
  root = c.take.ensures.beside.root;
  puts = c.take.ensures.beside.puts;
}

pub returns-clause-beside : goal.returns-clause-beside
returns-clause-beside c =
    beside_same c.args.self.now c.take.new.self c.take.ensures.beside.root
    c.take.ensures.beside.others
