use Rattle.std.proofs.Common.{take}
use Rattle.std.specs.Prelude.{◌↔◌, Contains}
use Rattle.rpq_base.specs.declared.data.Pair.{Pair}
use Rattle.path_syntax.specs.Expression.{expression}
use Rattle.path_syntax.specs.Language.{In}
use Rattle.rpq_model.specs.Relations.{values}
use Rattle.plain_evaluator.proofs.Onwards.{IsSimplyAlongOne}
use Rattle.plain_evaluator.proofs.simple.joined_simply.Given as goal

-- the pairs of the simple paths that begin with the edges so far are found
abbrev pub invariant-loop-edge : goal.invariant-loop-edge
invariant-loop-edge l = (pair : Pair) → Contains l.found.keys pair ↔ IsSimplyAlongOne
    (values (take l.edge-index l.edges)) (values l.edges) (In (expression l.expr)) pair
