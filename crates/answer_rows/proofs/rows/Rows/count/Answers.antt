use Rattle.std.proofs.Common.{sym, ◌∙◌}
use Rattle.answer_rows.proofs.Held.{held_are_rows}
use Rattle.answer_rows.proofs.Sources.{answers_counted}
use Rattle.answer_rows.proofs.rows.Rows.count.Goals as goal

pub returns-clause-count : goal.returns-clause-count
returns-clause-count c =
    rw (← c.self.view_is) (c.self.invariant.counted ∙ sym (answers_counted c.self.inside.rows))

pub returns-clause-sorted : goal.returns-clause-sorted
returns-clause-sorted c =
    rw (← c.self.view_is) (held_are_rows c.self.inside.rows c.self.inside.count c.self.invariant)
