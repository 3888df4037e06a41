-- The bindings of a join over the answers of queries, entry by entry of a history.
use Rattle.std.specs.Prelude.{◌≡◌, ℕ, ◌<◌, ◌↔◌, false, List, [], ◌∷◌, ◌++◌, length, Contains}
use Rattle.std.specs.Prelude.{IsTrue}
use Rattle.std.specs.Prelude.{Some, slice_get, flat_map}
use Rattle.rpq_base.specs.declared.data.Entry.{Entry}
use Rattle.rpq_base.specs.declared.data.Pair.{Pair}
use Rattle.rpq_model.specs.Answers.{IsAnswer, AreAnswers}
use Rattle.rpq_model.specs.Query.{Query, path_query}
use Rattle.join_file.specs.declared.data.JoinAtom.{JoinAtom}
use Rattle.join_bindings.specs.declared.event.JoinEvent.{JoinEvent}
use Rattle.join_file.specs.Joins.{JoinValue}
use Rattle.join_bindings.specs.Bindings.{Family, IsPairOf}
use Rattle.join_bindings.specs.Events.{AreJoinEvents, join_held_from}
use Rattle.join_file.specs.Sound.{IsSound}

-- the pairs of each query are its answers over the history
abbrev pub AreAnswersOf : List Query → List Entry → Family → Type 0
AreAnswersOf queries history pairs = (number : ℕ) (query : Query) →
    slice_get queries number ≡ Some query → AreAnswers (path_query query) history (pairs number)

-- the atom's pair is an answer of its query over the history
pub record IsMetOver (queries : List Query) (history : List Entry) (names : List (List ℕ))
    (atom : JoinAtom) : Type 0 where
  pub query : Query
  pub there : slice_get queries atom.query ≡ Some query
  pub pair : Pair
  pub has : IsPairOf names atom pair
  pub answer : IsAnswer (path_query query) history pair

-- a binding over the answers gives each variable a name, such that all atoms are met
pub record IsBindingOver (queries : List Query) (history : List Entry) (join : JoinValue)
    (names : List (List ℕ)) : Type 0 where
  pub as_many : length names ≡ join.variables
  pub met : (atom : JoinAtom) → Contains join.atoms atom → IsMetOver queries history names atom

-- the events of joins from one history to another: the changes from the bindings over the answers
-- over the first to those over the second
pub record AreJoinEventsFrom (queries : List Query) (joins : List JoinValue)
    (before after : List Entry) (events : List JoinEvent) : Type 0 where
  pub old : Family
  pub new : Family
  pub were : AreAnswersOf queries before old
  pub are : AreAnswersOf queries after new
  pub changes : AreJoinEvents joins old new events

-- each of the entries that follow a history has its list of events, in order: that of the step from
-- the history before the entry to the history with it
abbrev pub AreJoinEventsOn : List Query → List JoinValue → List Entry → List Entry →
    List (List JoinEvent) → Type 0
AreJoinEventsOn queries joins before [] [] = Unit {0}
AreJoinEventsOn queries joins before [] (events ∷ rest) = ⊥
AreJoinEventsOn queries joins before (entry ∷ later) [] = ⊥
AreJoinEventsOn queries joins before (entry ∷ later) (events ∷ rest) =
    AreJoinEventsFrom queries joins before (before ++ entry ∷ []) events
    × AreJoinEventsOn queries joins (before ++ entry ∷ []) later rest

-- going through the events from nothing leaves the binding held by the join
abbrev pub IsJoinHeld : ℕ → List JoinEvent → List (List ℕ) → Type 0
IsJoinHeld number events names = IsTrue (join_held_from false number names events)

-- going through the events of all entries of a history leaves exactly the bindings over its answers
abbrev pub JoinsHoldBindings : Type 0
JoinsHoldBindings = (queries : List Query) (joins : List JoinValue) (number : ℕ)
    (join : JoinValue) (history : List Entry) (events : List (List JoinEvent)) →
    slice_get joins number ≡ Some join → IsSound (length queries) join → 0 < join.variables →
    AreJoinEventsOn queries joins [] history events → (names : List (List ℕ)) →
    IsJoinHeld number (flat_map (λ list. list) events) names
    ↔ IsBindingOver queries history join names
