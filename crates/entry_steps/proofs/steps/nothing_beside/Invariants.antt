use Rattle.std.proofs.Common.{◌≡◌, length}
use Rattle.std.specs.Vec.{vec_items}
use Rattle.std.specs.List.{All}
use Rattle.entry_steps.specs.Telling.{TellsNothing}
use Rattle.entry_steps.proofs.steps.nothing_beside.Given as goal

-- nothing is told so far
abbrev pub invariant-loop : goal.invariant-loop
invariant-loop l =
    (length (vec_items l.beside) ≡ l.counter) × All TellsNothing (vec_items l.beside)
