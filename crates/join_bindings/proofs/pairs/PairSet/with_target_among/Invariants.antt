use Rattle.std.proofs.Common.{◌≡◌, take}
use Rattle.std.specs.Prelude.{◌↔◌, Contains}
use Rattle.rpq_base.specs.declared.data.Pair.{Pair}
use Rattle.join_bindings.proofs.pairs.PairSet.with_target_among.Given as goal

-- the pairs with the sources so far are found
abbrev pub invariant-loop-source : goal.invariant-loop-source
invariant-loop-source l = (pair : Pair) → Contains l.found.items pair
    ↔ (Contains l.self pair × ((l.to ≡ pair.to) × Contains (take l.source-index l.sources) pair.from))
