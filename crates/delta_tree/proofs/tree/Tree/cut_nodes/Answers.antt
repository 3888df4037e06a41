use Rattle.std.proofs.Common.{sym, ap, subst, ◌∙◌}
use Rattle.delta_tree.specs.Changes.{AreShifts, shift_ids}
use Rattle.delta_tree.proofs.Below.{ids_of_losses, cut_shifts}
use Rattle.delta_tree.proofs.tree.Tree.cut_nodes.Goals as goal

pub returns-clause-places : goal.returns-clause-places
returns-clause-places c = ap shift_ids c.in_ok-shifts.ensures
    ∙ ids_of_losses c.args.self.now.nodes c.args.ids.now

pub returns-clause-shifts : goal.returns-clause-shifts
returns-clause-shifts c =
    subst (AreShifts c.args.self.now c.take.new.self) (sym c.in_ok-shifts.ensures)
    (cut_shifts c.args.self.now c.take.new.self c.args.edge c.args.ids.now c.requires
    c.take.ensures.gone)
