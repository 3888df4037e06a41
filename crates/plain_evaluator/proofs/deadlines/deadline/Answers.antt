use Rattle.std.proofs.Common.{subst}
use Rattle.rpq_model.specs.Window.{WindowValue}
use Rattle.rpq_model.specs.WindowLaws.{IsDeadline}
use Rattle.rpq_model.proofs.Deadlines.{deadline_from_bounds}
use Rattle.plain_evaluator.proofs.deadlines.deadline.Goals as goal

pub returns : goal.returns
returns c =
    let given = c.next_multiple_of.ensures in
    subst (λ (window : WindowValue). IsDeadline window c.args.time c.next_multiple_of.result)
    c.window.view_is
    (deadline_from_bounds _ c.args.time c.next_multiple_of.result c.window.invariant.slide_from
    given.lower_bound given.upper_bound given.multiple)
