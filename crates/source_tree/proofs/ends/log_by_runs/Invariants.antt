use Rattle.std.proofs.Common.{◌≡◌, [], length}
use Rattle.delta_tree.specs.Nodes.{TreeValue}
use Rattle.delta_tree.specs.Changes.{AreShifts}
use Rattle.source_tree.specs.Product.{AreHeld}
use Rattle.source_tree.specs.Telling.{IsByVertex}
use Rattle.source_tree.proofs.Shifts.{TellsRuns}
use Rattle.source_tree.proofs.ends.log_by_runs.Given as goal

-- the shifts that are left are still to be looked at
abbrev pub invariant-loop-first : goal.invariant-loop-first
invariant-loop-first l = (old : TreeValue) → AreShifts old l.tree l.fn.shifts →
    AreHeld l.product.holders old → IsByVertex l.fn.shifts → l.fn.log.items ≡ [] →
    TellsRuns l.tree.root l.product.finals old l.tree l.rest l.log.items

abbrev pub decreases-loop-first : goal.decreases-loop-first
decreases-loop-first l = length l.rest
