use Rattle.std.proofs.Common.{◌<◌, List, length, sym, subst, ◌∙◌}
use Rattle.answer_rows.specs.declared.target.Target.{Target}
use Rattle.answer_rows.proofs.Held.{row_some, row_none, row_in_order, found_is_some}
use Rattle.answer_rows.proofs.rows.Rows.row.Goals as goal

pub returns-in-Some-clause-row : goal.returns-in-Some-clause-row
returns-in-Some-clause-row c =
    c.targets.ensures
    ∙ row_some c.self.inside.rows c.args.self.now c.args.from.now c.in-Some.row.now c.self.invariant.in_order c.self.view_is
    c.in-Some.ensures.value

pub returns-in-Some-clause-some : goal.returns-in-Some-clause-some
returns-in-Some-clause-some c =
    subst (λ (row : List Target). 0 < length row) (sym c.targets.ensures)
    (found_is_some c.self.inside.rows c.self.inside.count c.args.from.now c.in-Some.row.now c.self.invariant c.in-Some.ensures.value)

pub returns-in-Some-clause-sorted : goal.returns-in-Some-clause-sorted
returns-in-Some-clause-sorted c =
    row_in_order c.self.inside.rows c.self.inside.count c.args.self.now c.args.from.now c.self.invariant c.self.view_is

pub returns-in-None-clause-none : goal.returns-in-None-clause-none
returns-in-None-clause-none c =
    row_none c.self.inside.rows c.args.self.now c.args.from.now c.self.invariant.in_order c.self.view_is c.in-None.ensures.value

pub returns-in-None-clause-sorted : goal.returns-in-None-clause-sorted
returns-in-None-clause-sorted c =
    row_in_order c.self.inside.rows c.self.inside.count c.args.self.now c.args.from.now c.self.invariant c.self.view_is
