use Rattle.std.proofs.Common.{List}
use Rattle.std.specs.Prelude.{All}
use Rattle.rpq_base.specs.declared.data.Pair.{Pair}
use Rattle.join_bindings.specs.Overlaps.{IsOverlap, IsNarrow}
use Rattle.join_bindings.specs.Partial.{atoms_at}
use Rattle.join_bindings.proofs.overlap.narrowest.Given as goal

-- the narrowest so far is narrow
abbrev pub invariant-loop-overlap : goal.invariant-loop-overlap
invariant-loop-overlap l =
    (sets : List (List Pair)) → All (IsOverlap sets) l.overlaps → IsNarrow sets (atoms_at l.atoms) l.term l.narrow
