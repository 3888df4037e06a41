use Rattle.std.proofs.Common.{◌≡◌, ◌≤◌, length, take}
use Rattle.end_log.specs.Runs.{standing}
use Rattle.end_log.proofs.runs.count_standing.Given as goal

-- those so far are counted
abbrev pub invariant-loop-state : goal.invariant-loop-state
invariant-loop-state l =
    (l.count ≤ l.state-index)
    × (l.count ≡ length (standing l.dfa l.table l.moved (take l.state-index l.states)))
