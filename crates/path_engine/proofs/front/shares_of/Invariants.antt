use Rattle.std.proofs.Common.{◌≡◌, ◌++◌, length, map}
use Rattle.path_engine.specs.Front.{AreInPlace}
use Rattle.path_engine.proofs.Fronts.{index_of}
use Rattle.path_engine.proofs.front.shares_of.Given as goal

-- the indexes so far have their shares, in their places
abbrev pub invariant-loop-index : goal.invariant-loop-index
invariant-loop-index l =
    goal.iterator-loop-index.can_next l.index-iterator
    × goal.iterator-loop-index.is_finite l.index-iterator
    × (l.index-iterator.rest.len ≡ length l.index-iterator.rest.items)
    × (map index_of l.shares.items ++ l.index-iterator.rest.items ≡ l.fn.indexes.items)
    × (l.place ≡ length l.shares.items)
    × AreInPlace l.shares.items
