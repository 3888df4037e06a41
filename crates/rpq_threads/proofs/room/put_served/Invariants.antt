use Rattle.std.proofs.Common.{◌≡◌, ◌+◌, ◌≤◌, ◌++◌, length, map}
use Rattle.std.specs.Vec.{vec_len, vec_items, vec_capacity}
use Rattle.std.specs.Vec.Iter.{into_iter_items, into_iter_len}
use Rattle.rpq_threads.specs.Served.{outcome_of}
use Rattle.rpq_threads.proofs.room.put_served.Given as goal

abbrev pub invariant-loop-one : goal.invariant-loop-one
invariant-loop-one g l =
    let rest = into_iter_items l.one-iterator in
    (goal.iterator-loop-one g).can_next l.one-iterator
    × (goal.iterator-loop-one g).is_finite l.one-iterator
    × (l.yielded ++ rest ≡ vec_items l.fn.served)
    × (into_iter_len l.one-iterator ≡ length rest)
    × (vec_len l.passes + length rest ≤ vec_capacity l.passes)
    × (vec_len l.readers + length rest ≤ vec_capacity l.readers)
    × (vec_items l.passes ≡ vec_items l.initial.passes ++ map (λ r. r.pass) l.yielded)
    × (vec_items l.readers ≡ vec_items l.initial.readers ++ map outcome_of l.yielded)
