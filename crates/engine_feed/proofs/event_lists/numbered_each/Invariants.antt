use Rattle.std.proofs.Common.{◌≡◌, ◌++◌, length}
use Rattle.end_events.specs.Named.{named_lists, HaveAllNames}
use Rattle.engine_feed.proofs.event_lists.numbered_each.Given as goal

-- with those of the other entries, the events so far are all
abbrev pub invariant-loop-own : goal.invariant-loop-own
invariant-loop-own l =
    goal.iterator-loop-own.can_next l.own-iterator
    × goal.iterator-loop-own.is_finite l.own-iterator
    × (l.own-iterator.rest.len ≡ length l.own-iterator.rest.items)
    × (l.events.items ++ named_lists l.names l.own-iterator.rest.items
    ≡ named_lists l.names l.fn.lists.items)
    × HaveAllNames l.names l.own-iterator.rest.items
