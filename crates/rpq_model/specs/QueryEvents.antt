-- The events of several queries: one query after another, in the order of their list, each under
-- its place there, from 0.
use Rattle.std.specs.Prelude.{◌≡◌, ℕ, ◌+◌, List, [], ◌∷◌, ◌++◌}
use Rattle.rpq_base.specs.declared.data.Entry.{Entry}
use Rattle.rpq_base.specs.declared.data.Event.{Event}
use Rattle.rpq_model.specs.Query.{Query, path_query}
use Rattle.rpq_model.specs.Events.{AreEvents, AreEachFrom}

-- the events of these queries from one history to another, the first of them under this number
abbrev pub AreEventsUnder : ℕ → List Query → List Entry → List Entry → List Event → Type 0
AreEventsUnder number [] before after events = events ≡ []
AreEventsUnder number (query ∷ queries) before after events =
    (own others : List Event) × AreEvents (path_query query) number before after own
    × AreEventsUnder (number + 1) queries before after others × (events ≡ own ++ others)

-- the events that an entry after a history brings: those of the first query, then those of the next
abbrev pub AreEntryEvents : List Query → List Entry → Entry → List Event → Type 0
AreEntryEvents queries before entry events =
    AreEventsUnder 0 queries before (before ++ entry ∷ []) events

-- the events of each of the entries that follow a history, in order
abbrev pub AreAllEventsFrom : List Query → List Entry → List Entry → List (List Event) → Type 0
AreAllEventsFrom queries before later events =
    AreEachFrom (AreEventsUnder 0 queries) before later events

-- the events of each entry of a history, in order
abbrev pub AreAllEvents : List Query → List Entry → List (List Event) → Type 0
AreAllEvents queries history events = AreAllEventsFrom queries [] history events
