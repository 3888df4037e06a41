use Rattle.std.specs.Prelude.{All}
use Rattle.join_bindings.specs.Overlaps.{IsBlank}
use Rattle.join_bindings.proofs.overlap.overlaps_of.Given as goal

-- those so far have no vertices
abbrev pub invariant-loop-columns : goal.invariant-loop-columns
invariant-loop-columns l = All IsBlank l.overlaps.items
