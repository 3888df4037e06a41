use Rattle.std.proofs.Common.{◌≡◌, map, take, Vec, Global}
use Rattle.rpq_base.specs.declared.data.Event.{Event}
use Rattle.end_events.specs.Named.{named_lists}
use Rattle.end_events.proofs.naming.name_lists.Given as goal

-- the lists so far have their names
abbrev pub invariant-loop-list : goal.invariant-loop-list
invariant-loop-list l =
    map (λ (own : Vec Event Global). own.items) l.owns.items
    ≡ named_lists l.names (take l.list-index l.lists)
