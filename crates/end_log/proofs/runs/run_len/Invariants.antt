use Rattle.std.proofs.Common.{◌≡◌, ◌≤◌, ◌-◌, true, length, take}
use Rattle.std.specs.Prelude.{All}
use Rattle.end_log.specs.declared.moved.Moved.{Moved}
use Rattle.end_log.specs.Runs.{is_beside}
use Rattle.end_log.proofs.runs.run_len.Given as goal

-- those so far are of the root at the vertex
abbrev pub invariant-loop-len : goal.invariant-loop-len
invariant-loop-len l =
    (l.len ≤ length l.moved)
    × All (λ (each : Moved). is_beside l.first each ≡ true) (take l.len l.moved)

abbrev pub decreases-loop-len : goal.decreases-loop-len
decreases-loop-len l = length l.moved - l.len
