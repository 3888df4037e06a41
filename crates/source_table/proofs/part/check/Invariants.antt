use Rattle.std.proofs.Common.{take}
use Rattle.source_table.specs.Parts.{AreSound}
use Rattle.source_table.proofs.part.check.Given as goal

abbrev pub invariant-loop-place : goal.invariant-loop-place
invariant-loop-place l = AreSound (take l.place-index l.chosen) l.sources
