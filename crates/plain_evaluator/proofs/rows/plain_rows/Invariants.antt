use Rattle.rpq_model.specs.Query.{path_query}
use Rattle.plain_evaluator.proofs.Horizons.{IsAtDeadline}
use Rattle.plain_evaluator.proofs.rows.plain_rows.Given as goal

-- the ends below the deadline that is reached are found
abbrev pub invariant-loop-deadline : goal.invariant-loop-deadline
invariant-loop-deadline l = IsAtDeadline (path_query l.query) l.entries l.deadline-items
    l.deadline-index l.now l.ends
