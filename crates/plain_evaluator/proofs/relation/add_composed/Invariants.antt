use Rattle.std.proofs.Common.{take, ◌⊎◌}
use Rattle.std.specs.Prelude.{◌↔◌, Contains}
use Rattle.rpq_base.specs.declared.data.Pair.{Pair}
use Rattle.rpq_model.specs.Relations.{IsComposed}
use Rattle.plain_evaluator.proofs.relation.add_composed.Given as goal

-- what the first pairs so far and the second give is added
abbrev pub invariant-loop-first : goal.invariant-loop-first
invariant-loop-first l =
    (pair : Pair) → Contains l.found.keys pair ↔ (Contains l.fn.found.keys pair ⊎ IsComposed (take l.first-index l.firsts) l.seconds pair)
