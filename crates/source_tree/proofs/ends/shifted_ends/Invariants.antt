use Rattle.std.proofs.Common.{take}
use Rattle.source_tree.specs.Telling.{TellShifted}
use Rattle.source_tree.proofs.ends.shifted_ends.Given as goal

-- the shifts so far tell of the ends
abbrev pub invariant-loop-shift : goal.invariant-loop-shift
invariant-loop-shift l =
    TellShifted l.product.finals (take l.shift-index l.run) l.ends
