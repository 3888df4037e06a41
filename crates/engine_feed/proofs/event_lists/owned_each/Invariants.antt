use Rattle.std.proofs.Common.{◌≡◌, ◌++◌, length}
use Rattle.engine_feed.proofs.BothWays.{items_of}
use Rattle.engine_feed.proofs.event_lists.owned_each.Given as goal

-- with those of the other entries, the events so far are all
abbrev pub invariant-loop-own : goal.invariant-loop-own
invariant-loop-own l =
    goal.iterator-loop-own.can_next l.own-iterator
    × goal.iterator-loop-own.is_finite l.own-iterator
    × (l.own-iterator.rest.len ≡ length l.own-iterator.rest.items)
    × (l.events.items ++ items_of l.own-iterator.rest.items
    ≡ items_of l.fn.lists.items)
