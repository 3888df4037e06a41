use Rattle.std.proofs.Common.{◌≡◌, ◌+◌, ◌≤◌, ◌++◌, length, map}
use Rattle.std.specs.Vec.{vec_len, vec_items, vec_capacity}
use Rattle.std.specs.Vec.Iter.{into_iter_items, into_iter_len}
use Rattle.rpq_threads.proofs.room.put_streamed.Given as goal

abbrev pub invariant-loop-one : goal.invariant-loop-one
invariant-loop-one g l =
    let rest = into_iter_items l.one-iterator in
    (goal.iterator-loop-one g).can_next l.one-iterator
    × (goal.iterator-loop-one g).is_finite l.one-iterator
    × (l.yielded ++ rest ≡ vec_items l.fn.streamed)
    × (into_iter_len l.one-iterator ≡ length rest)
    × (vec_len l.passes + length rest ≤ vec_capacity l.passes)
    × (vec_len l.sources + length rest ≤ vec_capacity l.sources)
    × (vec_len l.ends + length rest ≤ vec_capacity l.ends)
    × (vec_len l.faults + length rest ≤ vec_capacity l.faults)
    × (vec_items l.passes ≡ vec_items l.initial.passes ++ map (λ d. d.pass) l.yielded)
    × (vec_items l.sources ≡ vec_items l.initial.sources ++ map (λ d. d.source) l.yielded)
    × (vec_items l.ends ≡ vec_items l.initial.ends ++ map (λ d. d.end) l.yielded)
    × (vec_items l.faults ≡ vec_items l.initial.faults ++ map (λ d. d.faults) l.yielded)
    × (vec_capacity l.passes ≡ vec_capacity l.initial.passes)
    × (vec_len l.passes ≡ vec_len l.initial.passes + length l.yielded)
