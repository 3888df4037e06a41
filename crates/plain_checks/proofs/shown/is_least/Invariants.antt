use Rattle.std.proofs.Common.{take, map}
use Rattle.rpq_model.specs.Live.{placed_entry}
use Rattle.plain_checks.proofs.Showing.{IsLeastSoFar}
use Rattle.plain_checks.proofs.shown.is_least.Given as goal

-- no deadline so far is below this one, which was met or not
abbrev pub invariant-loop-each : goal.invariant-loop-each
invariant-loop-each l = IsLeastSoFar l.window (map placed_entry (take l.each-index l.path)) l.until l.met
