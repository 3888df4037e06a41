use Rattle.std.proofs.Common.{◌↔◌}
use Rattle.delta_tree.specs.Paths.{IsBelow}
use Rattle.delta_tree.proofs.Ways.{height}
use Rattle.delta_tree.proofs.tree.Tree.is_below.Given as goal

-- the place that is reached is below the edge where the node is
abbrev pub invariant-loop-link : goal.invariant-loop-link
invariant-loop-link l = IsBelow l.self l.edge l.at ↔ IsBelow l.self l.edge l.fn.id

abbrev pub decreases-loop-link : goal.decreases-loop-link
decreases-loop-link l = height l.self l.at
