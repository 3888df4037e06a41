use Rattle.std.proofs.Common.{◌≡◌, ◌++◌, length}
use Rattle.std.specs.List.Sorted.{IsPermutation}
use Rattle.path_engine.specs.Parts.{shares_in}
use Rattle.path_engine.proofs.parts.deal.Given as goal

-- the shares so far are dealt
abbrev pub invariant-loop-share : goal.invariant-loop-share
invariant-loop-share l =
    goal.iterator-loop-share.can_next l.share-iterator
    × goal.iterator-loop-share.is_finite l.share-iterator
    × (l.share-iterator.rest.len ≡ length l.share-iterator.rest.items)
    × IsPermutation l.fn.shares.items
    (shares_in l.parts.items ++ l.share-iterator.rest.items)
