use Rattle.std.proofs.Common.{◌≡◌}
use Rattle.std.specs.Slice.Iter.{chunks_rest, chunks_size}
use Rattle.path_engine.proofs.Anew.{IsFed}
use Rattle.path_engine.proofs.rebuilding.feed_all.Given as goal

-- the engine was fed what the chunks before had
abbrev pub invariant-loop-front : goal.invariant-loop-front
invariant-loop-front g l =
    (goal.iterator-loop-front g).can_next l.front-iterator
    × (goal.iterator-loop-front g).is_finite l.front-iterator
    × (chunks_size l.front-iterator ≡ 256)
    × IsFed l.initial.engine.queries l.entries l.engine (chunks_rest l.front-iterator)
