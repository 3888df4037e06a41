use Rattle.delta_tree.proofs.Ways.{GoesUp, height}
use Rattle.delta_tree.proofs.tree.Tree.way_up.Given as goal

-- what is found leads up to the place that is reached
abbrev pub invariant-loop-link : goal.invariant-loop-link
invariant-loop-link l = GoesUp l.self l.fn.id l.at l.up.items

abbrev pub decreases-loop-link : goal.decreases-loop-link
decreases-loop-link l = height l.self l.at
