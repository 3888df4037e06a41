-- Queries that are accepted, and what they have over each history.
use Rattle.std.specs.Prelude.{◌≡◌, ℕ, List, All}
use Rattle.rpq_base.specs.declared.data.Entry.{Entry}
use Rattle.rpq_base.specs.declared.data.Pair.{Pair}
use Rattle.rpq_base.specs.declared.data.Event.{Event}
use Rattle.rpq_model.specs.declared.mode.Mode.TheVariants.{Simple}
use Rattle.rpq_model.specs.Answers.{AreAnswers}
use Rattle.rpq_model.specs.Query.{Query, language_of, path_query}
use Rattle.rpq_model.specs.QueryEvents.{AreEventsUnder, AreAllEvents}
use Rattle.containment_test.specs.Containment.{Contained}

-- a query is accepted: where it takes simple paths, its language has the property of containment
abbrev pub IsAccepted : Query → Type 0
IsAccepted query = query.mode ≡ Simple → Contained (language_of query)

-- an accepted query has a list of answers over each history
abbrev pub AcceptedHaveAnswers : Type 0
AcceptedHaveAnswers = (query : Query) → IsAccepted query → (history : List Entry) →
    (pairs : List Pair) × AreAnswers (path_query query) history pairs

-- accepted queries have their events from each history to each other, under any numbers
abbrev pub AcceptedHaveEvents : Type 0
AcceptedHaveEvents = (queries : List Query) → All IsAccepted queries →
    (number : ℕ) (before after : List Entry) →
    (events : List Event) × AreEventsUnder number queries before after events

-- and so those of each entry of each history
abbrev pub AcceptedHaveAllEvents : Type 0
AcceptedHaveAllEvents = (queries : List Query) → All IsAccepted queries →
    (history : List Entry) →
    (events : List (List Event)) × AreAllEvents queries history events
