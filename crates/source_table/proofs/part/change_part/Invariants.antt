use Rattle.std.proofs.Common.{◌≡◌, take, length}
use Rattle.source_table.specs.Parts.{Tries}
use Rattle.source_table.proofs.part.change_part.Given as goal

abbrev pub invariant-loop-place : goal.invariant-loop-place
invariant-loop-place l =
    (length l.part ≡ length l.initial.part)
    × Tries (take l.place-index l.chosen) l.start l.change l.product l.initial.part l.part
