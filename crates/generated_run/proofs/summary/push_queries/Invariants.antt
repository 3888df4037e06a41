use Rattle.std.proofs.Common.{◌≡◌, ◌++◌, drop}
use Rattle.generated_run.proofs.Lines.{lines_of}
use Rattle.generated_run.proofs.summary.push_queries.Given as goal

-- with the lines of the queries that are left, all lines are there
abbrev pub invariant-loop-i : goal.invariant-loop-i
invariant-loop-i l =
    l.text.items ++ lines_of (drop l.i l.queries) (drop l.i l.view.rows)
    ≡ l.initial.text.items ++ lines_of l.queries l.view.rows
