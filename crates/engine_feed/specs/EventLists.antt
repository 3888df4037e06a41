-- What an engine told of the entries that it was fed.
use Rattle.std.specs.Prelude.{ℕ, List, ⊤, map}
use Rattle.rpq_base.specs.declared.data.Event.{Event}
use Rattle.end_events.specs.Named.{named_lists, HaveAllNames}
use Rattle.engine_feed.specs.declared.event_lists.EventLists.{EventLists}
use Rattle.engine_feed.specs.declared.event_lists.EventLists.TheVariants.{Numbered, Named}

-- the events of each entry, with the names that have their numbers
abbrev pub lists_of : List (List ℕ) → EventLists → List (List Event)
lists_of names (Numbered lists) = named_lists names lists.items
lists_of names (Named lists) = map (λ own. own.items) lists.items

-- what is told by numbers is told by those of names
abbrev pub HaveNames : List (List ℕ) → EventLists → Type 0
HaveNames names (Numbered lists) = HaveAllNames names lists.items
HaveNames names (Named lists) = ⊤
