use Rattle.std.proofs.Common.{◌≡◌}
use Rattle.rpq_base.specs.Leading.{leading}
use Rattle.rpq_base.proofs.bytes_order.one_by_one.Given as goal

-- the bytes so far are the same
abbrev pub invariant-loop-place : goal.invariant-loop-place
invariant-loop-place l = leading l.place l.first ≡ leading l.place l.second
