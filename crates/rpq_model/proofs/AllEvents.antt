-- Of the events of several queries, a query's own decide what it holds.
use Rattle.std.proofs.Common.{◌≡◌, ◌≢◌, ℕ, zero, suc, ◌+◌, ◌<◌, Bool, true, false, ◌==◌, ◌&&◌, List, [], ◌∷◌, ◌++◌, map, Some, refl, sym, ap, subst, ◌∙◌, arith}
use Rattle.std.specs.Prelude.{◌↔◌, IsTrue, slice_get, if◌then◌else◌}
use Rattle.std.specs.List.{flat_map}
use Rattle.std.proofs.lemmas.Bool.{false_from_ne_true}
use Rattle.std.proofs.lemmas.Bool.Decides.{Decides-eqb}
use Rattle.rpq_base.specs.Same.{same_pair}
use Rattle.rpq_base.specs.Laws.{SameIsEqual}
use Rattle.rpq_base.specs.declared.data.Entry.{Entry}
use Rattle.rpq_base.specs.declared.data.Pair.{Pair}
use Rattle.rpq_base.specs.declared.data.Event.{Event}
use Rattle.rpq_model.specs.Events.{event, without, changes, AreEvents, AreEachFrom, held_from}
use Rattle.rpq_model.specs.Answers.{IsAnswer}
use Rattle.rpq_model.specs.Query.{Query, path_query}
use Rattle.rpq_model.specs.QueryEvents.{AreEventsUnder, AreAllEventsFrom}
use Rattle.rpq_model.specs.EventLaws.{EachHeldIsAnswers, EachHasOneList}
use Rattle.rpq_model.proofs.Held.{held_after, held_step, held_is_answers}
use Rattle.rpq_model.proofs.OneAnswer.{events_are_one}
use Rattle.rpq_model.proofs.EachEntry.{each_are_one, each_as_many}

-- numbers that differ
differ : (first second : ℕ) → first ≢ second → (first == second) ≡ false
differ first second apart = false_from_ne_true (first == second) (λ e. apart ((Decides-eqb first second).0 e))

-- events under another number change nothing
alike_of_another : (pairs : List Pair) (held added : Bool) (number other : ℕ) (pair : Pair) → (other == number) ≡ false →
    held_from held number pair (map (event other added) pairs) ≡ held
alike_of_another [] held added number other pair differ = refl
alike_of_another (first ∷ pairs) held added number other pair differ =
    ap (λ (this : Bool). held_from (if this && same_pair first pair then added else held) number pair (map (event other added) pairs)) differ
    ∙ alike_of_another pairs held added number other pair differ

changes_of_another : (old new : List Pair) (held : Bool) (number other : ℕ) (pair : Pair) → (other == number) ≡ false →
    held_from held number pair (changes other old new) ≡ held
changes_of_another old new held number other pair differ =
    held_after (map (event other false) (without old new)) (map (event other true) (without new old)) held number pair
    ∙ (alike_of_another (without new old) (held_from held number pair (map (event other false) (without old new))) true number other pair differ
    ∙ alike_of_another (without old new) held false number other pair differ)

-- and so do the events of queries under greater numbers
later_change_nothing : (queries : List Query) (first number : ℕ) (before after : List Entry) (events : List Event) (held : Bool) (pair : Pair) →
    number < first →
    AreEventsUnder first queries before after events → held_from held number pair events ≡ held
later_change_nothing [] first number before after events held pair below are = ap (held_from held number pair) are
later_change_nothing (query ∷ queries) first number before after events held pair below are =
    let own = are.0 in
    let others = are.1 in
    let changed = are.2 in
    ap (held_from held number pair) are.4
    ∙ (held_after own others held number pair
    ∙ (later_change_nothing queries (first + 1) number before after others (held_from held number pair own) pair (omega arith) are.3
    ∙ (ap (held_from held number pair) changed.4
    ∙ changes_of_another changed.0 changed.1 held number first pair (differ first number (λ e. absurd (omega (arith, below, e)))))))

-- a query's own events among those of several
pub record HasOwn (query : Query) (number : ℕ) (before after : List Entry) (events : List Event) : Type 0 where
  pub own : List Event
  pub are : AreEvents (path_query query) number before after own
  pub same : (held : Bool) (pair : Pair) → held_from held number pair events ≡ held_from held number pair own

-- the events of the first query
own_first : (query : Query) (queries : List Query) (number : ℕ) (before after : List Entry) (events own others : List Event) →
    AreEvents (path_query query) number before after own →
    AreEventsUnder (number + 1) queries before after others → events ≡ own ++ others → HasOwn query number before after events
own_first query queries number before after events own others own_are others_are is = record {
  own = own;
  are = own_are;
  same = λ held pair.
      ap (held_from held number pair) is
      ∙ (held_after own others held number pair
      ∙ later_change_nothing queries (number + 1) number before after others (held_from held number pair own) pair (omega arith) others_are);
}

-- those of a later one
own_later : (query other : Query) (first number : ℕ) (before after : List Entry) (events own others : List Event) → first < number →
    AreEvents (path_query other) first before after own →
    HasOwn query number before after others → events ≡ own ++ others → HasOwn query number before after events
own_later query other first number before after events own others below changed further is = record {
  own = further.own;
  are = further.are;
  same = λ held pair.
      ap (held_from held number pair) is
      ∙ (held_after own others held number pair
      ∙ (further.same (held_from held number pair own) pair
      ∙ ap (λ (now : Bool). held_from now number pair further.own)
      (ap (held_from held number pair) changed.4 ∙ changes_of_another changed.0 changed.1 held number first pair
      (differ first number (λ e. absurd (omega (arith, below, e)))))));
}

-- the first query is the one at place 0
first_query : (each query : Query) (queries : List Query) → slice_get (each ∷ queries) zero ≡ Some query → each ≡ query
first_query each query queries there = cc

no_query : (place : ℕ) (query : Query) → slice_get [] place ≡ Some query → ⊥
no_query place query there = cc

pub own_events : (queries : List Query) (place first number : ℕ) (query : Query) (before after : List Entry) (events : List Event) → number ≡ first + place →
    slice_get queries place ≡ Some query → AreEventsUnder first queries before after events → HasOwn query number before after events
own_events [] place first number query before after events is there are = absurd (no_query place query there)
own_events (each ∷ queries) zero first number query before after events is there are =
    subst (λ (at : ℕ). HasOwn query at before after events) (omega (arith, is))
    (subst (λ (one : Query). HasOwn one first before after events) (first_query each query queries there)
    (own_first each queries first before after events are.0 are.1 are.2 are.3 are.4))
own_events (each ∷ queries) (suc place) first number query before after events is there are =
    own_later query each first number before after events are.0 are.1 (omega (arith, is)) are.2
    (own_events queries place (first + 1) number query before after are.1 (omega (arith, is)) there are.3) are.4

-- a query's own events of all entries
own_of_all : (entries before : List Entry) (queries : List Query) (place : ℕ) (query : Query) (events : List (List Event)) →
    slice_get queries place ≡ Some query →
    AreAllEventsFrom queries before entries events →
    (own : List (List Event)) × AreEachFrom (AreEvents (path_query query) place) before entries own
    × ((held : Bool) (pair : Pair) → held_from held place pair (flat_map (λ list. list) events) ≡ held_from held place pair (flat_map (λ list. list) own))
own_of_all [] before queries place query [] there are = ([], tt, λ held pair. refl)
own_of_all [] before queries place query (block ∷ rest) there are = absurd are
own_of_all (entry ∷ later) before queries place query [] there are = absurd are
own_of_all (entry ∷ later) before queries place query (block ∷ rest) there are =
    let this = own_events queries place 0 place query before (before ++ entry ∷ []) block (omega arith) there are.0 in
    let further = own_of_all later (before ++ entry ∷ []) queries place query rest there are.1 in (
      this.own ∷ further.0,
      (this.are, further.1),
      λ held pair.
          held_after block (flat_map (λ (list : List Event). list) rest) held place pair
          ∙ (further.2 (held_from held place pair block) pair
          ∙ (ap (λ (now : Bool). held_from now place pair (flat_map (λ (list : List Event). list) further.0)) (this.same held pair)
          ∙ sym (held_after this.own (flat_map (λ (list : List Event). list) further.0) held place pair))),
    )

-- going through the events of all queries leaves each query's answers
pub each_held_is_answers : SameIsEqual → EachHeldIsAnswers
each_held_is_answers same queries place query history events there are pair =
    let own = own_of_all history [] queries place query events there are in
    subst (λ (held : Bool). IsTrue held ↔ IsAnswer (path_query query) history pair) (sym (own.2 false pair))
    (held_is_answers same (path_query query) place history own.0 own.1 pair)

-- one step's events of several queries carry what a query holds from the answers before it to those after it
pub queries_held_step : SameIsEqual →
    (queries : List Query) (place : ℕ) (query : Query) (before after : List Entry) (events : List Event) (held : Bool) (pair : Pair) →
    slice_get queries place ≡ Some query → AreEventsUnder 0 queries before after events →
    IsTrue held ↔ IsAnswer (path_query query) before pair → IsTrue (held_from held place pair events) ↔ IsAnswer (path_query query) after pair
queries_held_step same queries place query before after events held pair there are holds =
    let own = own_events queries place 0 place query before after events (omega arith) there are in
    subst (λ (now : Bool). IsTrue now ↔ IsAnswer (path_query query) after pair) (sym (own.same held pair))
    (held_step same (path_query query) place before after own.own held pair own.are holds)

-- the events of several queries are one list
pub under_one : (queries : List Query) (number : ℕ) (before after : List Entry) (events others : List Event) →
    AreEventsUnder number queries before after events → AreEventsUnder number queries before after others → events ≡ others
under_one [] number before after events others first second = first ∙ sym second
under_one (query ∷ queries) number before after events others first second =
    first.4
    ∙ (ap (λ (own : List Event). own ++ first.1) (events_are_one (path_query query) number before after first.0 second.0 first.2 second.2)
    ∙ (ap (λ (rest : List Event). second.0 ++ rest) (under_one queries (number + 1) before after first.1 second.1 first.3 second.3)
    ∙ sym second.4))

-- and so is each list of a history
pub each_has_one_list : EachHasOneList
each_has_one_list queries history lists are = record {
  one = λ others others_are. each_are_one history [] (AreEventsUnder 0 queries) lists others (under_one queries 0) are others_are;
  as_many = each_as_many history [] (AreEventsUnder 0 queries) lists are;
}
