use Rattle.std.proofs.Common.{ℕ, sym, subst}
use Rattle.delta_tree.specs.Nodes.{TreeValue}
use Rattle.delta_tree.specs.Changes.{CanHang, HasAsMuch, Lifts}
use Rattle.place_table.specs.Table.{tree_in}
use Rattle.place_table.proofs.Found.{err_then}
use Rattle.place_table.proofs.Beside.{both_shown, others_shown, same_shown, beside_same}
use Rattle.place_table.proofs.shown.PlaceTablePathTree.raise.Goals as goal

pub lift-requires : goal.lift-requires
lift-requires c = record {
  hangs = subst (λ (root : ℕ). CanHang (tree_in c.args.self.now root) c.args.step c.args.value)
      (sym c.shown.ensures) c.requires.hangs;
}

pub returns-clause-lifts : goal.returns-clause-lifts
returns-clause-lifts c shift is =
    both_shown (λ (old new : TreeValue). Lifts old new c.args.step c.args.value shift)
    c.args.self.now c.lift.new.self c.shown.result c.shown.ensures c.lift.ensures.shown
    (c.lift.ensures.lifts shift is)

pub returns-clause-stays : goal.returns-clause-stays
returns-clause-stays c is =
    both_shown (λ (old new : TreeValue). HasAsMuch old new c.args.step.to c.args.value)
    c.args.self.now c.lift.new.self c.shown.result c.shown.ensures c.lift.ensures.shown
    (c.lift.ensures.stays is)

pub returns-clause-unchanged : goal.returns-clause-unchanged
returns-clause-unchanged c =
    err_then c.lift.result c.lift.ensures.unchanged
    (same_shown c.args.self.now c.lift.new.self c.lift.ensures.shown)

pub returns-clause-beside : goal.returns-clause-beside
returns-clause-beside c =
    beside_same c.args.self.now c.lift.new.self c.lift.ensures.shown
    (others_shown c.args.self.now c.lift.new.self c.shown.result c.shown.ensures
    c.lift.ensures.others)
