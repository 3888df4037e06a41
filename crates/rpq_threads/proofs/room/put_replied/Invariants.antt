use Rattle.std.proofs.Common.{◌≡◌, ◌+◌, ◌≤◌, ◌++◌, length, map}
use Rattle.std.specs.List.{list_any}
use Rattle.std.specs.Vec.{vec_len, vec_items, vec_capacity}
use Rattle.std.specs.Vec.Iter.{into_iter_items, into_iter_len}
use Rattle.rpq_threads.proofs.room.put_replied.Given as goal

abbrev pub invariant-loop-one : goal.invariant-loop-one
invariant-loop-one l =
    let rest = into_iter_items l.one-iterator in
    (goal.iterator-loop-one).can_next l.one-iterator
    × (goal.iterator-loop-one).is_finite l.one-iterator
    × (l.yielded ++ rest ≡ vec_items l.fn.replied)
    × (into_iter_len l.one-iterator ≡ length rest)
    × (vec_len l.passes + length rest ≤ vec_capacity l.passes)
    × (vec_len l.answers + length rest ≤ vec_capacity l.answers)
    × (vec_items l.passes ≡ vec_items l.initial.passes ++ map (λ r. r.pass) l.yielded)
    × (vec_items l.answers ≡ vec_items l.initial.answers ++ map (λ r. r.answers) l.yielded)
    × (l.short_of_memory ≡ list_any (λ r. r.memory) l.yielded)
    × (vec_capacity l.passes ≡ vec_capacity l.initial.passes)
    × (vec_len l.passes ≡ vec_len l.initial.passes + length l.yielded)
