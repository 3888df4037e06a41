use Rattle.std.proofs.Common.{take}
use Rattle.plain_checks.proofs.FilledRows.{HaveEnds}
use Rattle.plain_checks.proofs.view.rows_of.Given as goal

-- the answers so far are put in
abbrev pub invariant-loop-each : goal.invariant-loop-each
invariant-loop-each l = HaveEnds l.rows (take l.each-index l.each-items)
