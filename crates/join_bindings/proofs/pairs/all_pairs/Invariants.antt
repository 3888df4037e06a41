use Rattle.std.proofs.Common.{take}
use Rattle.std.specs.Prelude.{◌↔◌, Contains}
use Rattle.rpq_base.specs.declared.data.Pair.{Pair}
use Rattle.join_bindings.specs.Pairs.{pairs_of}
use Rattle.join_bindings.proofs.pairs.all_pairs.Given as goal

-- the pairs of the rows so far are found
abbrev pub invariant-loop-place : goal.invariant-loop-place
invariant-loop-place l = (pair : Pair) → Contains l.found.items pair ↔ Contains (pairs_of (take l.place l.sources)) pair
