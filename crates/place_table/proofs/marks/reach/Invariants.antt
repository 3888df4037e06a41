use Rattle.std.proofs.Common.{◌+◌, ◌-◌, length}
use Rattle.place_table.specs.Marking.{AddsOne}
use Rattle.place_table.proofs.marks.reach.Given as goal

-- each mark stood there before, or is this one
abbrev pub invariant-loop-mark : goal.invariant-loop-mark
invariant-loop-mark l = AddsOne l.initial.latest.items l.latest.items l.mark

abbrev pub decreases-loop-mark : goal.decreases-loop-mark
decreases-loop-mark l = (l.number + 1) - length l.latest.items
