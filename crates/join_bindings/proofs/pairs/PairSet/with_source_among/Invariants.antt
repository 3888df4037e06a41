use Rattle.std.proofs.Common.{◌≡◌, take}
use Rattle.std.specs.Prelude.{◌↔◌, Contains}
use Rattle.rpq_base.specs.declared.data.Pair.{Pair}
use Rattle.join_bindings.proofs.pairs.PairSet.with_source_among.Given as goal

-- the pairs with the targets so far are found
abbrev pub invariant-loop-target : goal.invariant-loop-target
invariant-loop-target l = (pair : Pair) → Contains l.found.items pair
    ↔ (Contains l.self pair × ((l.from ≡ pair.from) × Contains (take l.target-index l.targets) pair.to))
