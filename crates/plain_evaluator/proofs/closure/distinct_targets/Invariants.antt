use Rattle.std.proofs.Common.{ℕ, List, take}
use Rattle.std.specs.Prelude.{◌↔◌, Contains}
use Rattle.rpq_model.specs.Relations.{targets}
use Rattle.plain_evaluator.proofs.closure.distinct_targets.Given as goal

-- the targets of the pairs so far are found
abbrev pub invariant-loop-pair : goal.invariant-loop-pair
invariant-loop-pair l = (vertex : List ℕ) → Contains l.found.keys vertex ↔ Contains (targets (take l.pair-index l.pairs)) vertex
