use Rattle.std.proofs.Common.{◌≡◌, ◌+◌, ◌≤◌, ◌++◌, length}
use Rattle.std.specs.Vec.{vec_len, vec_items, vec_capacity}
use Rattle.std.specs.Vec.Iter.{into_iter_items, into_iter_len}
use Rattle.rpq_run.specs.Sources.{stream_sources}
use Rattle.rpq_run.proofs.sources.parted.Given as goal

-- the sources so far are taken apart, at least one, and there is room for those that are left
abbrev pub invariant-loop-source : goal.invariant-loop-source
invariant-loop-source g l =
    let rest = into_iter_items l.source-iterator in
    (goal.iterator-loop-source g).can_next l.source-iterator
    × (goal.iterator-loop-source g).is_finite l.source-iterator
    × (stream_sources l.from (vec_items l.own) ++ rest ≡ vec_items l.fn.sources)
    × (into_iter_len l.source-iterator ≡ length rest)
    × (vec_len l.own + length rest ≤ vec_capacity l.own)
    × (1 ≤ length (vec_items l.own))
