use Rattle.std.proofs.Common.{◌+◌, ◌*◌, length, take}
use Rattle.path_syntax.specs.Expression.{expression}
use Rattle.path_syntax.specs.Language.{In}
use Rattle.rpq_model.specs.Relations.{values, Adds}
use Rattle.plain_evaluator.specs.Onwards.{unvisited, vertices_of, IsSameTrail}
use Rattle.plain_evaluator.proofs.Onwards.{IsAlongOne}
use Rattle.plain_evaluator.proofs.simple.+onwards.Given as goal

-- the edges that may still be taken
abbrev pub decreases-add_along : goal.decreases-add_along
decreases-add_along l = 2 * length (unvisited (values l.edges.now) (vertices_of l.trail.now.visited.items))

abbrev pub decreases-add_onwards : goal.decreases-add_onwards
decreases-add_onwards l = 2 * length (unvisited (values l.edges.now) (vertices_of l.trail.now.visited.items)) + 1

-- what goes on with one of the edges so far is added, and the trail is as it was
abbrev pub invariant-add_onwards-loop-edge : goal.invariant-add_onwards-loop-edge
invariant-add_onwards-loop-edge l = record {
  added : Adds l.fn.found.keys l.found.keys (IsAlongOne (values (take l.edge-index l.edges))
      (unvisited (values l.edges) (vertices_of l.fn.trail.visited.items)) (In (expression l.expr)) l.from l.fn.trail.word.items l.at);
  same : IsSameTrail l.fn.trail l.trail;
}
