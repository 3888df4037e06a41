use Rattle.std.proofs.Common.{take}
use Rattle.path_witness.specs.Told.{IsBestOf, AreMarked}
use Rattle.path_witness.proofs.path_entries.entries_of.Given as goal

-- the edges so far have marks with these positions and this least deadline
abbrev pub invariant-loop-place : goal.invariant-loop-place
invariant-loop-place l =
    AreMarked (IsBestOf l.marks l.query) (take l.place l.edges) l.positions.items l.least
