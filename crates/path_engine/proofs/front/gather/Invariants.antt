use Rattle.std.proofs.Common.{◌≡◌, ◌++◌, [], List, length, map}
use Rattle.end_events.specs.declared.numbered_event.NumberedEvent.{NumberedEvent}
use Rattle.path_engine.specs.Front.{AreGathered}
use Rattle.path_engine.proofs.Fronts.{index_of, items_of}
use Rattle.path_engine.proofs.front.gather.Given as goal

-- with those of the other shares, the indexes and the events so far are all
abbrev pub invariant-loop-share : goal.invariant-loop-share
invariant-loop-share l =
    goal.iterator-loop-share.can_next l.share-iterator
    × goal.iterator-loop-share.is_finite l.share-iterator
    × (l.share-iterator.rest.len ≡ length l.share-iterator.rest.items)
    × (l.indexes.items ++ map index_of l.share-iterator.rest.items
    ≡ map index_of l.fn.shares.items)
    × ((all : List (List NumberedEvent)) →
    AreGathered (items_of l.events.items) l.share-iterator.rest.items all →
    AreGathered [] l.fn.shares.items all)
