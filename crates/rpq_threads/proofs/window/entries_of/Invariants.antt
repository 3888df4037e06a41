use Rattle.std.proofs.Common.{◌≡◌, ◌++◌, length}
use Rattle.std.specs.Vec.{vec_items}
use Rattle.std.specs.Vec.Iter.{into_iter_items, into_iter_len}
use Rattle.saved_window.specs.Saved.{first_stream}
use Rattle.rpq_threads.proofs.window.entries_of.Given as goal

abbrev pub invariant-loop-tuple : goal.invariant-loop-tuple
invariant-loop-tuple l =
    let rest = into_iter_items l.tuple-iterator in
    (goal.iterator-loop-tuple).can_next l.tuple-iterator
    × (goal.iterator-loop-tuple).is_finite l.tuple-iterator
    × (into_iter_len l.tuple-iterator ≡ length rest)
    × (l.yielded ++ rest ≡ vec_items l.fn.tuples)
    × (vec_items l.entries ≡ first_stream l.yielded)
