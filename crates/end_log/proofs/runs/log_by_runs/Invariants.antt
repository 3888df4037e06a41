use Rattle.std.proofs.Common.{◌≡◌, ℕ, List, [], length}
use Rattle.place_table.specs.Table.{TableValue}
use Rattle.end_log.specs.Moves.{AreFinalMoves, HasFinals, IsInOrder}
use Rattle.end_log.specs.Runs.{Knows}
use Rattle.end_log.proofs.Left.{TellsRuns}
use Rattle.end_log.proofs.runs.log_by_runs.Given as goal

-- the nodes that are left are still to be looked at
abbrev pub invariant-loop-first : goal.invariant-loop-first
invariant-loop-first l =
    Knows l.table l.seen
    × ((finals : List ℕ) (old : TableValue) → HasFinals l.dfa finals →
    AreFinalMoves finals l.outcome old l.table l.fn.moved → IsInOrder l.fn.moved →
    l.fn.log.items ≡ [] → TellsRuns finals l.outcome old l.table l.rest l.log.items)

abbrev pub decreases-loop-first : goal.decreases-loop-first
decreases-loop-first l = length l.rest
