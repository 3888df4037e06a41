-- The events of an entry, whichever way they are held. No public contract cites this file.
use Rattle.std.specs.Prelude.{List, ⊤, map, All}
use Rattle.rpq_base.specs.declared.data.Event.{Event}
use Rattle.end_events.specs.declared.entry_events.HeldEvents.{HeldEvents}
use Rattle.end_events.specs.declared.entry_events.HeldEvents.TheVariants.{Numbered, Owned}
use Rattle.end_events.specs.Named.{named, HasNames}

-- the events, with their names
abbrev pub events_in : HeldEvents → List Event
events_in (Numbered names events) = map (named names.now) events.items
events_in (Owned events) = events.items

-- the numbers of the events are those of names
abbrev pub HaveTheirNames : HeldEvents → Type 0
HaveTheirNames (Numbered names events) = All (HasNames names.now) events.items
HaveTheirNames (Owned events) = ⊤
