use Rattle.std.proofs.Common.{◌≡◌, map, take}
use Rattle.end_events.specs.Named.{named}
use Rattle.end_events.proofs.naming.name_events.Given as goal

-- the events so far have their names
abbrev pub invariant-loop-event : goal.invariant-loop-event
invariant-loop-event l = l.own.items ≡ map (named l.names) (take l.event-index l.events)
