-- What the events of queries, from one history to another, are to the pairs of joins.
use Rattle.std.specs.Prelude.{◌≡◌, ℕ, ◌↔◌, List, length, Contains, Some, slice_get}
use Rattle.rpq_base.specs.declared.data.Entry.{Entry}
use Rattle.rpq_base.specs.declared.data.Pair.{Pair}
use Rattle.rpq_base.specs.declared.data.Event.{Event}
use Rattle.rpq_model.specs.Answers.{IsAnswer}
use Rattle.rpq_model.specs.Query.{Query, path_query}
use Rattle.rpq_model.specs.QueryEvents.{AreEventsUnder}
use Rattle.join_bindings.specs.declared.event.JoinEvent.{JoinEvent}
use Rattle.join_file.specs.Joins.{JoinValue}
use Rattle.join_bindings.specs.Events.{AreJoinEvents}
use Rattle.join_bindings.specs.Histories.{AreJoinEventsFrom}
use Rattle.join_bindings.specs.State.{family, MayCome, ArePut}

-- the pairs of each query are exactly its answers over the history
pub record HoldAnswers (queries : List Query) (history : List Entry)
    (sets : List (List Pair)) : Type 0 where
  pub as_many : length sets ≡ length queries
  pub exact : (number : ℕ) (query : Query) → slice_get queries number ≡ Some query → (pair : Pair) →
      Contains (family sets number) pair ↔ IsAnswer (path_query query) history pair

-- from pairs that are the answers over the first history the events lead on: they may come; where
-- they are put, the pairs are the answers over the second history, and the changes of bindings are
-- those from the one history to the other
pub record LeadOn (queries : List Query) (before after : List Entry) (old : List (List Pair))
    (events : List Event) : Type 0 where
  pub come : MayCome old events
  pub hold : (new : List (List Pair)) → length new ≡ length old → ArePut old new events →
      HoldAnswers queries after new
  pub changes : (new : List (List Pair)) → length new ≡ length old → ArePut old new events →
      (joins : List JoinValue) (found : List JoinEvent) →
      AreJoinEvents joins (family old) (family new) found →
      AreJoinEventsFrom queries joins before after found

-- the events of queries lead on from their answers
abbrev pub EventsLeadOn : Type 0
EventsLeadOn = (queries : List Query) (before after : List Entry) (old : List (List Pair))
    (events : List Event) →
    HoldAnswers queries before old → AreEventsUnder 0 queries before after events →
    LeadOn queries before after old events
