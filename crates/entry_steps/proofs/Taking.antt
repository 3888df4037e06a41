-- What joins make of the events of entries.
use Rattle.std.proofs.Common.{◌≡◌, ℕ, zero, suc, ◌<◌, Bool, true, false, List, [], ◌∷◌, ◌++◌}
use Rattle.std.proofs.Common.{length, Option, Some, None}
use Rattle.std.proofs.Common.{refl, sym, subst, ◌∙◌, append_assoc, append-nil}
use Rattle.std.specs.Prelude.{Contains}
use Rattle.std.specs.List.{All}
use Rattle.std.proofs.lemmas.List.Elements.{All-head, All-tail, All-weaker, All-contains_itself}
use Rattle.std.proofs.lemmas.Option.{slice_get_within}
use Rattle.rpq_base.specs.declared.data.Entry.{Entry}
use Rattle.rpq_base.specs.declared.data.Event.{Event}
use Rattle.rpq_base.specs.declared.data.Pair.{Pair}
use Rattle.rpq_base.proofs.Members.{none_in}
use Rattle.rpq_model.specs.Answers.{IsAnswer}
use Rattle.rpq_model.specs.Query.{Query, path_query}
use Rattle.rpq_model.specs.QueryEvents.{AreEventsUnder}
use Rattle.rpq_model.proofs.Held.{none_at_first}
use Rattle.containment_laws.specs.Accepted.{IsAccepted}
use Rattle.two_way.specs.TwoWay.{walked, AreAllWalkedEventsFrom}
use Rattle.join_bindings.specs.declared.event.JoinEvent.{JoinEvent}
use Rattle.join_bindings.specs.Events.{AreJoinEvents}
use Rattle.join_bindings.specs.HaveJoinEvents.{HaveJoinEvents}
use Rattle.join_file.specs.Joins.{JoinValue}
use Rattle.join_bindings.specs.Bindings.{Family}
use Rattle.join_bindings.specs.Leading.{EventsLeadOn}
use Rattle.join_bindings.specs.State.{JoinsValue, family}
use Rattle.entry_steps.specs.Steps.{AreJoinLines}
use Rattle.entry_steps.specs.Joining.{HaveJoins, MayTake, MayTakeEach, Takes, TakesEach}

-- ---- at the start

-- where no query has a pair, each has none
bare : (sets : List (List Pair)) (number : ℕ) → All (λ (pairs : List Pair). pairs ≡ []) sets →
    family sets number ≡ []
bare [] number all = refl
bare (first ∷ rest) zero all = All-head (λ (pairs : List Pair). pairs ≡ []) first rest all
bare (first ∷ rest) (suc number) all =
    bare rest number (All-tail (λ (pairs : List Pair). pairs ≡ []) first rest all)

-- over no entries nothing is an answer
none_walked : (two_way : Bool) (query : Query) (pair : Pair) →
    IsAnswer (path_query query) (walked two_way []) pair → ⊥
none_walked false query pair answer = none_at_first (path_query query) pair answer
none_walked true query pair answer = none_at_first (path_query query) pair answer

-- joins without pairs have the answers over no entries
pub have_at_first : (two_way : Bool) (joins : List JoinValue) (queries : List Query)
    (state : JoinsValue) → state.joins ≡ joins → state.spent ≡ false →
    length state.pairs ≡ length queries → All (λ (pairs : List Pair). pairs ≡ []) state.pairs →
    HaveJoins joins queries (walked two_way []) (Some state)
have_at_first two_way joins queries state same fresh many all = (
  same,
  fresh,
  record {
    as_many = many;
    exact = λ number query there pair. (
      (λ member. absurd (none_in pair (subst (λ (pairs : List Pair). Contains pairs pair)
          (bare state.pairs number all) member))),
      (λ answer. absurd (none_walked two_way query pair answer)),
    );
  },
)

-- ---- the events of an entry

-- the changes have the numbers of joins
pub numbers_of_changes : (joins : List JoinValue) (before after : Family)
    (changes : List JoinEvent) → AreJoinEvents joins before after changes →
    All (λ (each : JoinEvent). each.join < length joins) changes
numbers_of_changes joins before after changes are =
    All-weaker (Contains changes) (λ (each : JoinEvent). each.join < length joins)
    (λ each member.
    let found = (are.exact each).0 member in
    slice_get_within joins each.join found.0 found.1)
    changes (All-contains_itself changes)

-- the events from one history to another, of queries of whose answers joins are told
module _ (law : EventsLeadOn) (queries : List Query) (before after : List Entry)
    (events : List Event) (come : AreEventsUnder 0 queries before after events)
    (joins : List JoinValue) where
  may_take : (old : Option JoinsValue) → HaveJoins joins queries before old → MayTake old events
  may_take None have = tt
  may_take (Some old) have =
      (have.1, (law queries before after old.pairs events have.2 come).come)

  then_have : (old new : Option JoinsValue) (lines : List ℕ) →
      HaveJoins joins queries before old → Takes old events new lines →
      HaveJoins joins queries after new
  then_have None None lines have takes = have
  then_have None (Some new) lines have takes = absurd takes
  then_have (Some old) None lines have takes = absurd takes
  then_have (Some old) (Some new) lines have takes = (
    takes.same ∙ have.0,
    takes.sound,
    (law queries before after old.pairs events have.2 come).hold new.pairs takes.many takes.put,
  )

  -- they tell how the bindings change from the one to the other
  tell_changes : HaveJoinEvents → All IsAccepted queries → (old new : Option JoinsValue)
      (lines : List ℕ) → HaveJoins joins queries before old → Takes old events new lines →
      AreJoinLines queries joins before after lines
  tell_changes some accepted None None lines have takes =
      subst (λ (js : List JoinValue). AreJoinLines queries js before after lines) (sym have)
      (record {
        changes = [];
        are = some.none queries accepted before after;
        lines_are = takes;
      })
  tell_changes some accepted None (Some new) lines have takes = absurd takes
  tell_changes some accepted (Some old) None lines have takes = absurd takes
  tell_changes some accepted (Some old) (Some new) lines have takes =
      subst (λ (js : List JoinValue). AreJoinLines queries js before after lines) have.0
      (record {
        changes = takes.changes;
        are = (law queries before after old.pairs events have.2 come).changes new.pairs takes.many
            takes.put old.joins takes.changes takes.are;
        lines_are = takes.lines_are;
      })

-- ---- the events of one entry after another

-- one entry more
pub takes_push : (lists : List (List Event)) (told : List (List ℕ))
    (old mid new : Option JoinsValue) (events : List Event) (lines : List ℕ) →
    TakesEach old lists mid told → Takes mid events new lines →
    TakesEach old (lists ++ events ∷ []) new (told ++ lines ∷ [])
takes_push [] [] old mid new events lines each takes =
    (new, subst (λ (state : Option JoinsValue). Takes state events new lines) each takes, refl)
takes_push [] (first ∷ told) old mid new events lines each takes = absurd each
takes_push (own ∷ lists) [] old mid new events lines each takes = absurd each
takes_push (own ∷ lists) (first ∷ told) old mid new events lines each takes =
    (each.0, each.1, takes_push lists told each.0 mid new events lines each.2 takes)

-- the lines are those of the entries that follow a history
abbrev pub AreLinesFrom : Bool → List Query → List JoinValue → List Entry → List Entry →
    List (List ℕ) → Type 0
AreLinesFrom two_way queries joins before [] [] = Unit {0}
AreLinesFrom two_way queries joins before [] (lines ∷ rest) = ⊥
AreLinesFrom two_way queries joins before (entry ∷ later) [] = ⊥
AreLinesFrom two_way queries joins before (entry ∷ later) (lines ∷ rest) =
    AreJoinLines queries joins (walked two_way before) (walked two_way (before ++ entry ∷ [])) lines
    × AreLinesFrom two_way queries joins (before ++ entry ∷ []) later rest

module _ (law : EventsLeadOn) (two_way : Bool) (queries : List Query) (joins : List JoinValue)
  where
    -- the events of the entries that follow a history can be taken
    pub may_take_each : (later before : List Entry) (lists : List (List Event))
        (old : Option JoinsValue) → AreAllWalkedEventsFrom two_way queries before later lists →
        HaveJoins joins queries (walked two_way before) old → MayTakeEach old lists
    may_take_each [] before [] old are have = tt
    may_take_each [] before (events ∷ rest) old are have = absurd are
    may_take_each (entry ∷ later) before [] old are have = absurd are
    may_take_each (entry ∷ later) before (events ∷ rest) old are have =
        let after = before ++ entry ∷ [] in
        let first = walked two_way before in
        let second = walked two_way after in (
          may_take law queries first second events are.0 joins old have,
          λ next lines takes.
              may_take_each later after rest next are.1
              (then_have law queries first second events are.0 joins old next lines have takes),
        )

    -- where they were taken, the lines are those of the entries, and the joins have the answers
    -- over all of them
    pub told_each : HaveJoinEvents → All IsAccepted queries → (later before : List Entry)
        (lists : List (List Event)) (told : List (List ℕ)) (old new : Option JoinsValue) →
        AreAllWalkedEventsFrom two_way queries before later lists →
        HaveJoins joins queries (walked two_way before) old → TakesEach old lists new told →
        AreLinesFrom two_way queries joins before later told
        × HaveJoins joins queries (walked two_way (before ++ later)) new
    told_each some accepted [] before [] [] old new are have takes = (
      tt,
      subst (λ (history : List Entry). HaveJoins joins queries (walked two_way history) new)
          (sym (append-nil before))
          (subst (HaveJoins joins queries (walked two_way before)) (sym takes) have),
    )
    told_each some accepted [] before [] (lines ∷ told) old new are have takes = absurd takes
    told_each some accepted [] before (events ∷ rest) told old new are have takes = absurd are
    told_each some accepted (entry ∷ later) before [] told old new are have takes = absurd are
    told_each some accepted (entry ∷ later) before (events ∷ rest) [] old new are have takes =
        absurd takes
    told_each some accepted (entry ∷ later) before (events ∷ rest) (lines ∷ told) old new are have
        takes =
        let after = before ++ entry ∷ [] in
        let first = walked two_way before in
        let second = walked two_way after in
        let next = takes.0 in
        let held = then_have law queries first second events are.0 joins old next lines have
        takes.1 in
        let further = told_each some accepted later after rest told next new are.1 held takes.2 in (
          (
            tell_changes law queries first second events are.0 joins some accepted old next lines
                have takes.1,
            further.0,
          ),
          subst (λ (history : List Entry). HaveJoins joins queries (walked two_way history) new)
              (append_assoc before (entry ∷ []) later) further.1,
        )
