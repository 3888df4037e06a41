use Rattle.std.proofs.Common.{◌≡◌, All, length, take, drop}
use Rattle.std.specs.Vec.{vec_items}
use Rattle.entry_steps.specs.Joining.{MayTakeEach, TakesEach}
use Rattle.entry_steps.specs.Showing.{AreShownBy}
use Rattle.entry_steps.specs.Steps.{lines_of}
use Rattle.entry_steps.specs.Telling.{lists_in, steps_with}
use Rattle.entry_steps.proofs.steps.make_beside.Given as goal

-- what is shown of the events so far, and the lines that the joins told of them
abbrev pub invariant-loop-events : goal.invariant-loop-events
invariant-loop-events l =
    let lists = lists_in (take l.events-index l.found) in
    let steps = steps_with lists (vec_items l.beside) in
    (length (vec_items l.beside) ≡ l.events-index)
    × All (λ step. AreShownBy l.engine l.marks step.events step.shown) steps
    × MayTakeEach l.joins (lists_in (drop l.events-index l.found))
    × TakesEach l.fn.joins lists l.joins (lines_of steps)
