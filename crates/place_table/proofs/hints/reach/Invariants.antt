use Rattle.std.proofs.Common.{◌≡◌, ◌+◌, ◌-◌, ℕ, length}
use Rattle.place_table.specs.Kept.{row_at}
use Rattle.place_table.proofs.hints.reach.Given as goal

-- no row shows anything else
abbrev pub invariant-loop-alloc : goal.invariant-loop-alloc
invariant-loop-alloc l =
    (each : ℕ) → row_at l.rows.items each ≡ row_at l.initial.rows.items each

abbrev pub decreases-loop-alloc : goal.decreases-loop-alloc
decreases-loop-alloc l = (l.vertex + 1) - length l.rows.items
