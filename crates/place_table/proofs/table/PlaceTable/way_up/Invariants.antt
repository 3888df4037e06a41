use Rattle.delta_tree.proofs.Ways.{GoesUp, height}
use Rattle.place_table.specs.Table.{tree_in}
use Rattle.place_table.proofs.table.PlaceTable.way_up.Given as goal

-- what is found leads up to the place that is reached
abbrev pub invariant-loop-link : goal.invariant-loop-link
invariant-loop-link l = GoesUp (tree_in l.self l.root) l.fn.id l.at l.up.items

abbrev pub decreases-loop-link : goal.decreases-loop-link
decreases-loop-link l = height (tree_in l.self l.root) l.at
