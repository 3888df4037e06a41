-- What the definitions are meant to say, and what the calls are for, as laws.
use Rattle.std.specs.Prelude.{◌≡◌, ℕ, ◌↔◌, ◌⊎◌, true, List, [], ◌∷◌, ◌++◌, All, Contains, Some, None}
use Rattle.rpq_base.specs.Plain.{IsPlainLabel, IsPlain}
use Rattle.rpq_base.specs.declared.data.Label.{Label}
use Rattle.rpq_base.specs.declared.data.Edge.{Edge}
use Rattle.rpq_base.specs.declared.data.Entry.{Entry}
use Rattle.rpq_base.specs.declared.data.Pair.{Pair}
use Rattle.rpq_base.specs.declared.data.Event.{Event}
use Rattle.path_syntax.specs.Expression.{Expression}
use Rattle.path_syntax.specs.Language.{In}
use Rattle.path_syntax.specs.Plain.{IsPlainExpression}
use Rattle.rpq_model.specs.declared.mode.Mode.{Mode}
use Rattle.rpq_model.specs.Window.{WindowValue, edges_at}
use Rattle.rpq_model.specs.Answers.{IsAnswer}
use Rattle.rpq_model.specs.AnswerLaws.{query_for}
use Rattle.rpq_model.specs.Query.{Query}
use Rattle.rpq_model.specs.QueryEvents.{AreEventsUnder, AreEntryEvents, AreAllEventsFrom}
use Rattle.two_way.specs.Doubled.{inverse_edge, inverse_entry, doubled}
use Rattle.two_way.specs.TwoWay.{IsTwoWayAnswer, AreTwoWayEvents, AreAllWalkedEventsFrom}
use Rattle.two_way.specs.Differences.{Family, AreDifference, AreAnswersUnder}
use Rattle.two_way.specs.Net.{AreNet, AreAllNet}

-- ---- what doubling does

-- the edge is one of these, or one of them taken backwards
abbrev pub IsEitherWay : List Edge → Edge → Type 0
IsEitherWay edges edge = Contains edges edge
    ⊎ ((forward : Edge) × Contains edges forward × (edge ≡ inverse_edge forward))

-- of a history whose labels point forwards, a query sees each live edge both ways, and no other, at
-- any clock
abbrev pub EdgesAreSeenBothWays : Type 0
EdgesAreSeenBothWays = (window : WindowValue) (now : ℕ) (history : List Entry) (edge : Edge) →
    All IsPlain history →
    Contains (edges_at window now (doubled history)) edge
    ↔ IsEitherWay (edges_at window now history) edge

-- where no word of the language takes an edge backwards, the two-way answers are the answers
abbrev pub OneWaySame : (List Label → Type 0) → Type 0
OneWaySame language =
    ((word : List Label) → language word → All IsPlainLabel word) →
    (mode : Mode) (window : WindowValue) (history : List Entry) (pair : Pair) →
    IsTwoWayAnswer (query_for language mode window) history pair
    ↔ IsAnswer (query_for language mode window) history pair

-- no word of an expression without an inverse label takes an edge backwards
abbrev pub PlainExpressionsHavePlainWords : Type 0
PlainExpressionsHavePlainWords =
    (e : Expression) → IsPlainExpression e → (word : List Label) → In e word → All IsPlainLabel word

-- ---- the events of two steps as those of one

-- where two lists are the differences from a first family to a second and from there to a third,
-- their net is the difference from the first to the third
abbrev pub NetIsDifference : Type 0
NetIsDifference = (before middle after : Family) (first second events : List Event) →
    AreDifference before middle first → AreDifference middle after second →
    AreNet first second events → AreDifference before after events

-- the events of queries from one history to another are exactly the difference of their answers
abbrev pub EventsAreDifferences : Type 0
EventsAreDifferences =
    (queries : List Query) (before after : List Entry) (events : List Event) →
    AreEventsUnder 0 queries before after events
    ↔ ((old new : Family)
    × AreAnswersUnder 0 queries before old
    × AreAnswersUnder 0 queries after new
    × AreDifference old new events)

-- the events that an engine answers for an entry and then for its inverse, netted, are the two-way
-- events of the entry
abbrev pub NetIsTwoWay : Type 0
NetIsTwoWay = (queries : List Query) (history : List Entry) (entry inverse : Entry)
    (first second events : List Event) →
    inverse_entry entry ≡ Some inverse →
    AreEntryEvents queries (doubled history) entry first →
    AreEntryEvents queries (doubled history ++ entry ∷ []) inverse second →
    AreNet first second events → AreTwoWayEvents queries history entry events

-- and those of an entry without an inverse are its two-way events
abbrev pub TickIsTwoWay : Type 0
TickIsTwoWay =
    (queries : List Query) (history : List Entry) (entry : Entry) (events : List Event) →
    inverse_entry entry ≡ None →
    AreEntryEvents queries (doubled history) entry events
    ↔ AreTwoWayEvents queries history entry events

-- the events that an engine answers for entries and their inverses, netted entry by entry, are the
-- two-way events of the entries
abbrev pub AllNetAreTwoWay : Type 0
AllNetAreTwoWay =
    (queries : List Query) (before later : List Entry) (lists netted : List (List Event)) →
    AreAllEventsFrom queries (doubled before) (doubled later) lists →
    AreAllNet later lists netted → AreAllWalkedEventsFrom true queries before later netted
