use Rattle.std.proofs.Common.{◌≡◌, ◌++◌, filter}
use Rattle.rpq_base.specs.Same.{same_name}
use Rattle.rpq_base.specs.declared.data.Pair.{Pair}
use Rattle.plain_evaluator.proofs.closure.leading_to.Given as goal

-- with those of the pairs that are left, they are found
abbrev pub invariant-loop-pair : goal.invariant-loop-pair
invariant-loop-pair l =
    l.found.items ++ filter (λ (pair : Pair). same_name pair.to l.vertex) l.pair-iterator
    ≡ filter (λ (pair : Pair). same_name pair.to l.vertex) l.pairs.keys
