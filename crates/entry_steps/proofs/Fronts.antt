-- The events of the first entries of a history are those of a shorter one, and what is held after
-- them.
use Rattle.std.proofs.Common.{◌≡◌, ℕ, Bool, true, false, List, [], ◌∷◌, ◌++◌, Some, take}
use Rattle.std.proofs.Common.{sym, subst, append_assoc}
use Rattle.std.specs.Prelude.{◌↔◌, IsTrue, slice_get}
use Rattle.std.specs.List.{flat_map}
use Rattle.std.proofs.lemmas.Bool.{false≢true}
use Rattle.std.proofs.lemmas.List.{append-nil}
use Rattle.rpq_base.specs.Laws.{SameIsEqual}
use Rattle.rpq_base.specs.declared.data.Entry.{Entry}
use Rattle.rpq_base.specs.declared.data.Event.{Event}
use Rattle.rpq_base.specs.declared.data.Pair.{Pair}
use Rattle.rpq_model.specs.Answers.{IsAnswer}
use Rattle.rpq_model.specs.Events.{held_from}
use Rattle.rpq_model.specs.Query.{Query, path_query}
use Rattle.rpq_model.proofs.AllEvents.{queries_held_step}
use Rattle.rpq_model.proofs.EachEntry.{each_fronts}
use Rattle.rpq_model.proofs.Held.{held_after, none_at_first}
use Rattle.two_way.specs.TwoWay.{walked, AreWalkedEvents, AreAllWalkedEventsFrom}
use Rattle.entry_steps.specs.Laws.{FrontsHoldAnswers}

-- what a query holds before some entries is carried by their events to what it holds after them
held_on : (later before : List Entry) (two_way : Bool) (queries : List Query) (place : ℕ)
    (query : Query) (events : List (List Event)) (held : Bool) (pair : Pair) → SameIsEqual →
    slice_get queries place ≡ Some query →
    AreAllWalkedEventsFrom two_way queries before later events →
    IsTrue held ↔ IsAnswer (path_query query) (walked two_way before) pair →
    IsTrue (held_from held place pair (flat_map (λ list. list) events))
    ↔ IsAnswer (path_query query) (walked two_way (before ++ later)) pair
held_on [] before two_way queries place query [] held pair same there are holds =
    subst (λ (history : List Entry). IsTrue held
    ↔ IsAnswer (path_query query) (walked two_way history) pair) (sym (append-nil before)) holds
held_on [] before two_way queries place query (own ∷ rest) held pair same there are holds =
    absurd are
held_on (entry ∷ later) before two_way queries place query [] held pair same there are holds =
    absurd are
held_on (entry ∷ later) before two_way queries place query (own ∷ rest) held pair same there are
    holds =
    let now = queries_held_step same queries place query (walked two_way before)
    (walked two_way (before ++ entry ∷ [])) own held pair there are.0 holds in
    let further = held_on later (before ++ entry ∷ []) two_way queries place query rest
    (held_from held place pair own) pair same there are.1 now in
    rw (
      held_after own (flat_map (λ (list : List Event). list) rest) held place pair,
      ← append_assoc before (entry ∷ []) later,
    ) further

-- over the empty history nothing is an answer, and nothing is held
none_walked : (two_way : Bool) (query : Query) (pair : Pair) →
    IsAnswer (path_query query) (walked two_way []) pair → ⊥
none_walked false query pair answer = none_at_first (path_query query) pair answer
none_walked true query pair answer = none_at_first (path_query query) pair answer

pub fronts_hold : SameIsEqual → FrontsHoldAnswers
fronts_hold same two_way queries place query history events there are count pair =
    held_on (take count history) [] two_way queries place query (take count events) false pair same
    there
    (each_fronts history events count (AreWalkedEvents two_way queries) [] are) (
      (λ e. absurd (false≢true e)),
      (λ answer. absurd (none_walked two_way query pair answer)),
    )
