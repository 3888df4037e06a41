use Rattle.std.proofs.Common.{take, map}
use Rattle.rpq_model.specs.Live.{placed_entry}
use Rattle.plain_evaluator.proofs.Horizons.{AreDeadlinesOf}
use Rattle.plain_evaluator.proofs.deadlines.deadlines_at.Given as goal

-- the deadlines of the entries so far are found
abbrev pub invariant-loop-each : goal.invariant-loop-each
invariant-loop-each l = AreDeadlinesOf l.window (map placed_entry (take l.each-index l.each-items))
    l.found.keys
