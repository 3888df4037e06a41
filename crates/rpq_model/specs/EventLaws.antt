-- What the definitions of events are meant to say, as laws.
use Rattle.std.specs.Prelude.{◌≡◌, ◌≢◌, ℕ, ◌↔◌, ◌⊎◌, Bool, true, false, List, [], ◌∷◌, ◌++◌, length}
use Rattle.std.specs.Prelude.{take, AllPairs, Contains, IsTrue, Some, slice_get}
use Rattle.std.specs.List.{flat_map}
use Rattle.std.specs.declared.cmp.Ordering.TheVariants.{Less}
use Rattle.rpq_base.specs.Order.{pair_cmp}
use Rattle.rpq_base.specs.declared.data.Label.{Label}
use Rattle.rpq_base.specs.declared.data.Entry.{Entry}
use Rattle.rpq_base.specs.declared.data.Pair.{Pair}
use Rattle.rpq_base.specs.declared.data.Event.{Event}
use Rattle.rpq_model.specs.declared.mode.Mode.{Mode}
use Rattle.rpq_model.specs.Window.{WindowValue}
use Rattle.rpq_model.specs.Answers.{IsAnswer}
use Rattle.rpq_model.specs.Events.{AreEvents, AreEventsOf, held_from, IsHeld}
use Rattle.rpq_model.specs.Query.{Query, path_query}
use Rattle.rpq_model.specs.QueryEvents.{AreEntryEvents, AreAllEventsFrom, AreAllEvents}
use Rattle.rpq_model.specs.AnswerLaws.{query_for}

-- a query has at most one list of events from one history to another
abbrev pub EventsAreOne : (List Label → Type 0) → Type 0
EventsAreOne language =
    (mode : Mode) (window : WindowValue) (number : ℕ) (before after : List Entry)
    (events others : List Event) →
    AreEvents (query_for language mode window) number before after events →
    AreEvents (query_for language mode window) number before after others → events ≡ others

-- each entry of a history has at most one list of events
abbrev pub AllEventsAreOne : (List Label → Type 0) → Type 0
AllEventsAreOne language =
    (mode : Mode) (window : WindowValue) (number : ℕ) (history : List Entry)
    (events others : List (List Event)) →
    AreEventsOf (query_for language mode window) number history events →
    AreEventsOf (query_for language mode window) number history others → events ≡ others

-- of two events, the earlier and the later: they have different pairs, no loss follows a gain, and
-- those of one kind are in the order of their pairs
pub record IsApart (earlier later : Event) : Type 0 where
  pub pairs : earlier.pair ≢ later.pair
  pub losses_first : earlier.added ≡ true → later.added ≡ true
  pub sorted : earlier.added ≡ later.added → pair_cmp earlier.pair later.pair ≡ Less

-- no event undoes another of the same entry: the losses come first, each part is sorted, and no
-- pair has two events
abbrev pub EventsAreApart : (List Label → Type 0) → Type 0
EventsAreApart language =
    (mode : Mode) (window : WindowValue) (number : ℕ) (before after : List Entry)
    (events : List Event) →
    AreEvents (query_for language mode window) number before after events → AllPairs IsApart events

-- an event between two relations: a loss was in the first and is not in the second, a gain is in
-- the second and was not in the first
abbrev pub IsChange : (Pair → Type 0) → (Pair → Type 0) → Event → Type 0
IsChange before after each =
    ((each.added ≡ false) × before each.pair × (after each.pair → ⊥))
    ⊎ ((each.added ≡ true) × after each.pair × (before each.pair → ⊥))

-- the events are exactly the changes: a loss was an answer and is none, a gain was none and is one,
-- and nothing else
abbrev pub EventsAreChanges : (List Label → Type 0) → Type 0
EventsAreChanges language =
    (mode : Mode) (window : WindowValue) (number : ℕ) (before after : List Entry)
    (events : List Event) →
    AreEvents (query_for language mode window) number before after events → (each : Event) →
    Contains events each
    ↔ ((each.query ≡ number)
    × IsChange (IsAnswer (query_for language mode window) before)
    (IsAnswer (query_for language mode window) after) each)

-- going through the events of all entries of a history leaves exactly its answers
abbrev pub HeldIsAnswers : (List Label → Type 0) → Type 0
HeldIsAnswers language =
    (mode : Mode) (window : WindowValue) (number : ℕ) (history : List Entry)
    (events : List (List Event)) →
    AreEventsOf (query_for language mode window) number history events →
    (pair : Pair) → IsHeld number (flat_map (λ list. list) events) pair
    ↔ IsAnswer (query_for language mode window) history pair

-- going through the events of several queries of all entries of a history leaves exactly the
-- answers of each, under its place
abbrev pub EachHeldIsAnswers : Type 0
EachHeldIsAnswers = (queries : List Query) (place : ℕ) (query : Query) (history : List Entry)
    (events : List (List Event)) →
    slice_get queries place ≡ Some query → AreAllEvents queries history events →
    (pair : Pair) → IsHeld place (flat_map (λ list. list) events) pair
    ↔ IsAnswer (path_query query) history pair

-- one entry's events carry what is held, for each query under its place, from the answers before it
-- to those after it
abbrev pub HeldStep : Type 0
HeldStep = (queries : List Query) (place : ℕ) (query : Query) (before : List Entry) (entry : Entry)
    (events : List Event) (held : Bool) (pair : Pair) →
    slice_get queries place ≡ Some query → AreEntryEvents queries before entry events →
    IsTrue held ↔ IsAnswer (path_query query) before pair →
    IsTrue (held_from held place pair events)
    ↔ IsAnswer (path_query query) (before ++ entry ∷ []) pair

-- an entry brings at most one list of events of several queries
abbrev pub EntryEventsAreOne : Type 0
EntryEventsAreOne = (queries : List Query) (before : List Entry) (entry : Entry)
    (events others : List Event) →
    AreEntryEvents queries before entry events → AreEntryEvents queries before entry others →
    events ≡ others

-- each entry of a history has at most one list of events of several queries, and there are as many
-- lists as entries
pub record HasOneList (queries : List Query) (history : List Entry)
    (lists : List (List Event)) : Type 0 where
  pub one : (others : List (List Event)) → AreAllEvents queries history others → lists ≡ others
  pub as_many : length lists ≡ length history

abbrev pub EachHasOneList : Type 0
EachHasOneList = (queries : List Query) (history : List Entry) (lists : List (List Event)) →
    AreAllEvents queries history lists → HasOneList queries history lists

-- one entry more brings one list more
abbrev pub EventsGrow : Type 0
EventsGrow = (queries : List Query) (before later : List Entry) (entry : Entry)
    (lists : List (List Event)) (events : List Event) →
    AreAllEventsFrom queries before later lists →
    AreEntryEvents queries (before ++ later) entry events →
    AreAllEventsFrom queries before (later ++ entry ∷ []) (lists ++ events ∷ [])

-- the first entries have the first lists
abbrev pub EventsHaveFronts : Type 0
EventsHaveFronts = (queries : List Query) (before later : List Entry) (lists : List (List Event))
    (count : ℕ) →
    AreAllEventsFrom queries before later lists →
    AreAllEventsFrom queries before (take count later) (take count lists)
