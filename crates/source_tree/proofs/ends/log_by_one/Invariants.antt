use Rattle.std.proofs.Common.{◌≡◌, [], drop}
use Rattle.delta_tree.specs.Nodes.{TreeValue}
use Rattle.delta_tree.specs.Changes.{AreShifts}
use Rattle.source_tree.proofs.Shifts.{TellsOne}
use Rattle.source_tree.proofs.ends.log_by_one.Given as goal

-- the shifts that are left are still to be looked at
abbrev pub invariant-loop-shift : goal.invariant-loop-shift
invariant-loop-shift l = (old new : TreeValue) → AreShifts old new l.shifts →
    l.fn.log.items ≡ [] →
    TellsOne l.root l.state old new (drop l.shift-index l.shifts) l.log.items
