use Rattle.std.proofs.Common.{◌≡◌}
use Rattle.rpq_base.specs.Leading.{leading}
use Rattle.name_table.proofs.sort_key.sort_key.Given as goal

-- the digits so far
abbrev pub invariant-loop-place : goal.invariant-loop-place
invariant-loop-place l = l.key ≡ leading l.place l.bytes
