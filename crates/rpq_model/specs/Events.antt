-- The events of a query: which pairs an entry takes away and which it brings.
use Rattle.std.specs.Prelude.{◌≡◌, ℕ, Bool, true, false, not, ◌==◌, ◌&&◌, List, [], ◌∷◌, ◌++◌, map}
use Rattle.std.specs.Prelude.{filter, IsTrue, if◌then◌else◌}
use Rattle.std.specs.List.{list_any}
use Rattle.rpq_base.specs.Same.{same_pair}
use Rattle.rpq_base.specs.declared.data.Entry.{Entry}
use Rattle.rpq_base.specs.declared.data.Pair.{Pair}
use Rattle.rpq_base.specs.declared.data.Event.{Event}
use Rattle.rpq_model.specs.Answers.{PathQuery, AreAnswers}

-- the event that a query's answers gain the pair, or lose it
abbrev pub event : ℕ → Bool → Pair → Event
event query added pair = record { query = query; added = added; pair = pair }

-- the pairs of the first list that aren't in the second, in their order
abbrev pub without : List Pair → List Pair → List Pair
without pairs others = filter (λ pair. not (list_any (same_pair pair) others)) pairs

-- from the old answers of a query to the new ones: the pairs that are lost, then those that are
-- gained
abbrev pub changes : ℕ → List Pair → List Pair → List Event
changes query old new =
    map (event query false) (without old new) ++ map (event query true) (without new old)

-- the events of the query with this number, from one history to another: the changes from its
-- answers over the first to those over the second
abbrev pub AreEvents : PathQuery → ℕ → List Entry → List Entry → List Event → Type 0
AreEvents query number before after events =
    (old new : List Pair) × AreAnswers query before old × AreAnswers query after new
    × (events ≡ changes number old new)

-- each of the entries that follow a history has its list of events, in order: that of the step from
-- the history before the entry to the history with it
abbrev pub AreEachFrom : (List Entry → List Entry → List Event → Type 0) → List Entry → List Entry →
    List (List Event) → Type 0
AreEachFrom step before [] [] = Unit {0}
AreEachFrom step before [] (events ∷ rest) = ⊥
AreEachFrom step before (entry ∷ later) [] = ⊥
AreEachFrom step before (entry ∷ later) (events ∷ rest) =
    step before (before ++ entry ∷ []) events × AreEachFrom step (before ++ entry ∷ []) later rest

-- the events of the query, under this number, of each entry of a history, in order
abbrev pub AreEventsOf : PathQuery → ℕ → List Entry → List (List Event) → Type 0
AreEventsOf query number history events = AreEachFrom (AreEvents query number) [] history events

-- whether a query holds the pair after the events, where it held it before or not: an addition puts
-- its pair in, a retraction takes it out
abbrev pub held_from : Bool → ℕ → Pair → List Event → Bool
held_from before query pair [] = before
held_from before query pair (event ∷ events) =
    held_from (if event.query == query && same_pair event.pair pair then event.added else before)
    query pair events

-- going through the events from the empty set leaves the pair held by the query
abbrev pub IsHeld : ℕ → List Event → Pair → Type 0
IsHeld query events pair = IsTrue (held_from false query pair events)
