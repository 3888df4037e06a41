use Rattle.std.proofs.Common.{take}
use Rattle.std.specs.Prelude.{◌↔◌, Contains}
use Rattle.rpq_base.specs.declared.data.Pair.{Pair}
use Rattle.rpq_model.proofs.Closing.{IsReachedOver}
use Rattle.plain_evaluator.proofs.closure.closure.Given as goal

-- the pairs that are reached over the vertices so far
abbrev pub invariant-loop-vertex : goal.invariant-loop-vertex
invariant-loop-vertex l =
    (pair : Pair) → Contains l.reached.keys pair ↔ IsReachedOver l.pairs (take l.vertex-index l.vertex-items) pair
