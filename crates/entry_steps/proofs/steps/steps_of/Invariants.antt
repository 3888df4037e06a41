use Rattle.std.proofs.Common.{◌≡◌, ◌++◌, length}
use Rattle.std.specs.Vec.{vec_items}
use Rattle.std.specs.Vec.Iter.{into_iter_items, into_iter_len}
use Rattle.entry_steps.specs.Telling.{steps_with}
use Rattle.entry_steps.proofs.steps.steps_of.Given as goal

-- the steps so far, and those of what is left, are all
abbrev pub invariant-loop-own : goal.invariant-loop-own
invariant-loop-own l =
    let rest = into_iter_items l.own-iterator in
    let others = into_iter_items l.beside in
    (goal.iterator-loop-own).can_next l.own-iterator
    × (goal.iterator-loop-own).is_finite l.own-iterator
    × (into_iter_len l.own-iterator ≡ length rest)
    × (length others ≡ length rest)
    × (vec_items l.steps ++ steps_with rest others
    ≡ steps_with (vec_items l.fn.events) (vec_items l.fn.beside))
