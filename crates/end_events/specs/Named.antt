-- Events by the numbers that the names of their pairs have.
use Rattle.std.specs.Prelude.{ℕ, ◌<◌, List, length, map, All}
use Rattle.std.specs.Global.{Global}
use Rattle.std.specs.declared.vec.Vec.{Vec}
use Rattle.rpq_base.specs.declared.data.Event.{Event}
use Rattle.name_table.specs.Names.{name_at}
use Rattle.end_events.specs.declared.numbered_event.NumberedEvent.{NumberedEvent}

-- the event with the names that have its numbers
abbrev pub named : List (List ℕ) → NumberedEvent → Event
named names event = record {
  query = event.query;
  added = event.added;
  pair = record { from = name_at names event.root; to = name_at names event.vertex };
}

-- both numbers of the event are those of names
pub record HasNames (names : List (List ℕ)) (event : NumberedEvent) : Type 0 where
  pub root : event.root < length names
  pub vertex : event.vertex < length names

-- the events of each list with their names
abbrev pub named_lists : List (List ℕ) → List (Vec NumberedEvent Global) → List (List Event)
named_lists names lists =
    map (λ (own : Vec NumberedEvent Global). map (named names) own.items) lists

-- all their numbers are those of names
abbrev pub HaveAllNames : List (List ℕ) → List (Vec NumberedEvent Global) → Type 0
HaveAllNames names lists =
    All (λ (own : Vec NumberedEvent Global). All (HasNames names) own.items) lists
