use Rattle.std.proofs.Common.{◌≡◌, ◌≤◌, ◌-◌}
use Rattle.rpq_base.specs.Leading.{leading}
use Rattle.rpq_base.proofs.bytes_order.by_eight.Given as goal

-- the bytes so far are the same
abbrev pub invariant-loop-place : goal.invariant-loop-place
invariant-loop-place l = (l.place ≤ l.both) × (leading l.place l.first ≡ leading l.place l.second)

abbrev pub decreases-loop-place : goal.decreases-loop-place
decreases-loop-place l = l.both - l.place
