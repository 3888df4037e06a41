use Rattle.std.proofs.Common.{take}
use Rattle.source_tree.specs.declared.change.Outcome.TheVariants.{Lost, Gained}
use Rattle.end_events.specs.Pairs.{Gathers}
use Rattle.end_events.proofs.pairs.add_given.Given as goal

-- the pairs of the changes so far are added to both lists
abbrev pub invariant-loop-each : goal.invariant-loop-each
invariant-loop-each l =
    Gathers l.mode Lost l.names (take l.each-index l.changes) l.fn.lost.items l.lost.items
    × Gathers l.mode Gained l.names (take l.each-index l.changes) l.fn.gained.items l.gained.items
