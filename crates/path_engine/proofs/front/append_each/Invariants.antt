use Rattle.std.proofs.Common.{◌≡◌, ◌++◌, length}
use Rattle.path_engine.specs.Front.{joined}
use Rattle.path_engine.proofs.Fronts.{items_of}
use Rattle.path_engine.proofs.front.append_each.Given as goal

-- the events of the entries so far are there
abbrev pub invariant-loop-own : goal.invariant-loop-own
invariant-loop-own l =
    goal.iterator-loop-own.can_next l.own-iterator
    × goal.iterator-loop-own.is_finite l.own-iterator
    × (l.yielded ++ l.own-iterator.rest.items ≡ l.fn.owns.items)
    × (l.own-iterator.rest.len ≡ length l.own-iterator.rest.items)
    × (l.place ≡ length l.yielded)
    × (items_of l.events.items ≡ joined (items_of l.fn.events.items) (items_of l.yielded))
