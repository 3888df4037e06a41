use Rattle.std.proofs.Common.{take}
use Rattle.source_tree.specs.Taking.{is_raise}
use Rattle.delta_forest.specs.Settling.{HoldsAnew}
use Rattle.delta_forest.proofs.settling.hold.Given as goal

-- the root is held anew at the places so far
abbrev pub invariant-loop-id : goal.invariant-loop-id
invariant-loop-id l =
    HoldsAnew l.fn.holders l.holders l.root (is_raise l.change) (take l.id-index l.source.moved)
