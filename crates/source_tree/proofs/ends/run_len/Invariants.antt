use Rattle.std.proofs.Common.{◌≡◌, ◌≤◌, ◌-◌, length, take}
use Rattle.std.specs.Prelude.{All}
use Rattle.delta_tree.specs.declared.node.Shift.{Shift}
use Rattle.source_tree.proofs.ends.run_len.Given as goal

-- those so far are of the vertex
abbrev pub invariant-loop-len : goal.invariant-loop-len
invariant-loop-len l =
    (l.len ≤ length l.shifts)
    × All (λ (each : Shift). each.id.vertex ≡ l.vertex) (take l.len l.shifts)

abbrev pub decreases-loop-len : goal.decreases-loop-len
decreases-loop-len l = length l.shifts - l.len
