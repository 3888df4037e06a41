-- The answers and the events of queries that may take edges backwards.
use Rattle.std.specs.Prelude.{Bool, true, false, List, [], ◌∷◌, ◌++◌}
use Rattle.rpq_base.specs.declared.data.Entry.{Entry}
use Rattle.rpq_base.specs.declared.data.Pair.{Pair}
use Rattle.rpq_base.specs.declared.data.Event.{Event}
use Rattle.rpq_model.specs.Answers.{PathQuery, IsAnswer}
use Rattle.rpq_model.specs.Events.{AreEachFrom}
use Rattle.rpq_model.specs.Query.{Query}
use Rattle.rpq_model.specs.QueryEvents.{AreEventsUnder}
use Rattle.two_way.specs.Doubled.{doubled}

-- the pair is an answer over the history in which each entry stands with its inverse
abbrev pub IsTwoWayAnswer : PathQuery → List Entry → Pair → Type 0
IsTwoWayAnswer query history pair = IsAnswer query (doubled history) pair

-- the events that an entry after a history brings: for each query in order the two-way answers that
-- are lost, then those that are gained, each sorted; one difference for the entry and its inverse
abbrev pub AreTwoWayEvents : List Query → List Entry → Entry → List Event → Type 0
AreTwoWayEvents queries history entry events =
    AreEventsUnder 0 queries (doubled history) (doubled (history ++ entry ∷ [])) events

-- what queries are evaluated over, of a history: where they may take edges backwards, the history
-- in which each entry stands with its inverse, else the history itself
abbrev pub walked : Bool → List Entry → List Entry
walked false history = history
walked true history = doubled history

-- the events from one history to another, of queries that may take edges backwards or not
abbrev pub AreWalkedEvents : Bool → List Query → List Entry → List Entry → List Event → Type 0
AreWalkedEvents two_way queries before after events =
    AreEventsUnder 0 queries (walked two_way before) (walked two_way after) events

-- the events of each of the entries that follow a history, in order
abbrev pub AreAllWalkedEventsFrom : Bool → List Query → List Entry → List Entry →
    List (List Event) → Type 0
AreAllWalkedEventsFrom two_way queries before later lists =
    AreEachFrom (AreWalkedEvents two_way queries) before later lists

-- the events of each entry of a history, in order
abbrev pub AreAllWalkedEvents : Bool → List Query → List Entry → List (List Event) → Type 0
AreAllWalkedEvents two_way queries history lists =
    AreAllWalkedEventsFrom two_way queries [] history lists
