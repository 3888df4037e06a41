use Rattle.std.proofs.Common.{◌≡◌}
use Rattle.reach_cases.proofs.paths.put_marks.Given as goal

-- the marks took the entries so far
abbrev pub invariant-loop-entry : goal.invariant-loop-entry
invariant-loop-entry l = l.marks.taken ≡ l.entry-index
