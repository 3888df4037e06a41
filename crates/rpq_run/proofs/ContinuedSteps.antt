-- The steps of entries behind what stands in a history's place.
use Rattle.std.proofs.Common.{◌≡◌, ℕ, Bool, true, false, List, [], ◌∷◌, ◌++◌, map, Some, refl, sym, ap, ap₂, subst, ◌∙◌}
use Rattle.std.proofs.Common.{append_assoc, append-nil, arith, inl, inr, length, ◌+◌}
use Rattle.std.specs.Prelude.{Contains, slice_get}
use Rattle.std.proofs.lemmas.Option.{slice_get_within, get_or_from_slice_get}
use Rattle.join_bindings.specs.Bindings.{Family}
use Rattle.join_bindings.specs.Histories.{AreAnswersOf, IsMetOver}
use Rattle.join_file.specs.declared.data.JoinAtom.{JoinAtom}
use Rattle.join_file.specs.Joins.{JoinValue}
use Rattle.rpq_base.proofs.Members.{cons_members}
use Rattle.rpq_base.specs.declared.data.Entry.{Entry}
use Rattle.rpq_base.specs.declared.data.Event.{Event}
use Rattle.rpq_base.specs.declared.data.Pair.{Pair}
use Rattle.rpq_model.specs.Answers.{AreAnswers}
use Rattle.rpq_model.specs.Query.{Query, path_query}
use Rattle.rpq_model.specs.QueryEvents.{AreEventsUnder}
use Rattle.saved_window.specs.Continues.{StandsIn}
use Rattle.entry_steps.specs.Steps.{OptionsValue, StepValue, IsStep, AreSteps, AreStepsFrom}
use Rattle.entry_steps.proofs.StepLists.{steps_as_many}
use Rattle.rpq_text.proofs.BlockLists.{blocks_append}
use Rattle.rpq_text.specs.Text.{IsText, blocks_from}
use Rattle.rpq_run.specs.Continued.{AnswerAlike, StandsFor, no_paths, without_paths}

-- a member by its place
pub at_place : {X : Type 0} (xs : List X) (place : ℕ) (x : X) → slice_get xs place ≡ Some x → Contains xs x
at_place xs place x there = (place, slice_get_within xs place x there, get_or_from_slice_get xs place x x there)

-- ---- the steps of some entries, and of those that follow them

pub record AreCut (options : OptionsValue) (queries : List Query) (before first later : List Entry) (steps : List StepValue) : Type 0 where
  pub front : List StepValue
  pub rest : List StepValue
  pub joined : steps ≡ front ++ rest
  pub front_are : AreStepsFrom options queries before first front
  pub rest_are : AreStepsFrom options queries (before ++ first) later rest

pub steps_cut : (first before later : List Entry) (steps : List StepValue) (options : OptionsValue) (queries : List Query) →
    AreStepsFrom options queries before (first ++ later) steps → AreCut options queries before first later steps
steps_cut [] before later steps options queries are = record {
  front = [];
  rest = steps;
  joined = refl;
  front_are = tt;
  rest_are = subst (λ (all : List Entry). AreStepsFrom options queries all later steps) (sym (append-nil before)) are;
}
steps_cut (entry ∷ first) before later [] options queries are = absurd are
steps_cut (entry ∷ first) before later (step ∷ steps) options queries are =
    let cut = steps_cut first (before ++ entry ∷ []) later steps options queries are.1 in
    record {
      front = step ∷ cut.front;
      rest = cut.rest;
      joined = ap (λ (all : List StepValue). step ∷ all) cut.joined;
      front_are = (are.0, cut.front_are);
      rest_are = subst (λ (all : List Entry). AreStepsFrom options queries all later cut.rest)
          (append_assoc before (entry ∷ []) first) cut.rest_are;
    }

-- and joined again
steps_joined : (first : List Entry) (steps : List StepValue) (options : OptionsValue) (queries : List Query) (before later : List Entry)
    (more : List StepValue) → AreStepsFrom options queries before first steps → AreStepsFrom options queries (before ++ first) later more →
    AreStepsFrom options queries before (first ++ later) (steps ++ more)
steps_joined [] [] options queries before later more are then =
    subst (λ (all : List Entry). AreStepsFrom options queries all later more) (append-nil before) then
steps_joined [] (step ∷ steps) options queries before later more are then = absurd are
steps_joined (entry ∷ first) [] options queries before later more are then = absurd are
steps_joined (entry ∷ first) (step ∷ steps) options queries before later more are then = (
  are.0,
  steps_joined first steps options queries (before ++ entry ∷ []) later more are.1
      (subst (λ (all : List Entry). AreStepsFrom options queries all later more) (sym (append_assoc before (entry ∷ []) first)) then),
)

-- the blocks of all are those of the first entries, and then those of the others
pub blocks_cut : (options : OptionsValue) (queries : List Query) (first later : List Entry) (steps more : List StepValue) →
    AreSteps options queries first steps →
    blocks_from queries 1 (first ++ later) (steps ++ more)
    ≡ blocks_from queries 1 first steps ++ blocks_from queries (length first + 1) later more
blocks_cut options queries first later steps more are =
    let many = sym (steps_as_many first [] options queries steps are) in
    let position : 1 + length first ≡ length first + 1 = omega arith in
    blocks_append first steps queries 1 later more many
    ∙ ap (λ (n : ℕ). blocks_from queries 1 first steps ++ blocks_from queries n later more) position

-- the text of a history, and then the blocks of the entries that follow it
pub text_joined : (options : OptionsValue) (queries : List Query) (history : List Entry) (text : List ℕ) (later : List Entry)
    (more : List StepValue) → IsText options queries history text → AreStepsFrom options queries history later more →
    IsText options queries (history ++ later) (text ++ blocks_from queries (length history + 1) later more)
text_joined options queries history text later more is brings =
    let steps = is.0 in (
      steps ++ more,
      steps_joined history steps options queries [] later more is.1 brings,
      ap (λ (all : List ℕ). all ++ blocks_from queries (length history + 1) later more) is.2
          ∙ sym (blocks_cut options queries history later steps more is.1),
    )

-- steps without paths are as they are
pub none_to_leave_out : (later before : List Entry) (steps : List StepValue) (joins : List JoinValue) (queries : List Query) →
    AreStepsFrom (no_paths joins) queries before later steps → map without_paths steps ≡ steps
none_to_leave_out [] before [] joins queries are = refl
none_to_leave_out [] before (step ∷ steps) joins queries are = absurd are
none_to_leave_out (entry ∷ later) before [] joins queries are = absurd are
none_to_leave_out (entry ∷ later) before (step ∷ steps) joins queries are =
    let none : step.shown ≡ [] = are.0.none_shown refl in
    ap₂ (λ (one : StepValue) (more : List StepValue). one ∷ more)
    (λ i. record { events = step.events; shown = sym none i; joined = step.joined })
    (none_to_leave_out later (before ++ entry ∷ []) steps joins queries are.1)

-- ---- histories that answer alike

-- a history answers as it does itself, and as one that answers as a third one does
pub alike_itself : (queries : List Query) (history : List Entry) → AnswerAlike queries history history
alike_itself queries history = record {
  answers = λ query among pair. ((λ answer. answer), (λ answer. answer));
  ends = λ query among pair until. ((λ is. is), (λ is. is));
  bindings = λ join names. ((λ binding. binding), (λ binding. binding));
}

pub alike_further : (queries : List Query) (first second third : List Entry) → AnswerAlike queries first second →
    AnswerAlike queries second third → AnswerAlike queries first third
alike_further queries first second third one two = record {
  answers = λ query among pair.
      let here = one.answers query among pair in
      let there = two.answers query among pair in
      ((λ answer. there.0 (here.0 answer)), (λ answer. here.1 (there.1 answer)));
  ends = λ query among pair until.
      let here = one.ends query among pair until in
      let there = two.ends query among pair until in
      ((λ is. there.0 (here.0 is)), (λ is. here.1 (there.1 is)));
  bindings = λ join names.
      let here = one.bindings join names in
      let there = two.bindings join names in
      ((λ binding. there.0 (here.0 binding)), (λ binding. here.1 (there.1 binding)));
}

-- what stands in a history's place stands for it
module _ (queries : List Query) (history other : List Entry) (stands : StandsIn queries history other) where
  -- an atom is met over both
  met_there : (later : List Entry) (names : List (List ℕ)) (atom : JoinAtom) → IsMetOver queries (other ++ later) names atom →
      IsMetOver queries (history ++ later) names atom
  met_there later names atom met = record {
    query = met.query;
    there = met.there;
    pair = met.pair;
    has = met.has;
    answer = (stands.answers met.query (at_place queries atom.query met.query met.there) later met.pair).1 met.answer;
  }

  met_here : (later : List Entry) (names : List (List ℕ)) (atom : JoinAtom) → IsMetOver queries (history ++ later) names atom →
      IsMetOver queries (other ++ later) names atom
  met_here later names atom met = record {
    query = met.query;
    there = met.there;
    pair = met.pair;
    has = met.has;
    answer = (stands.answers met.query (at_place queries atom.query met.query met.there) later met.pair).0 met.answer;
  }

  pub stands_for : StandsFor queries other history
  stands_for later = record {
    answers = λ query among pair.
        let both = stands.answers query among later pair in
        (both.1, both.0);
    ends = λ query among pair until.
        let both = stands.ends query among later pair until in
        (both.1, both.0);
    bindings = λ join names. (
      (λ binding. record {
        as_many = binding.as_many;
        met = λ atom among. met_there later names atom (binding.met atom among);
      }),
      (λ binding. record {
        as_many = binding.as_many;
        met = λ atom among. met_here later names atom (binding.met atom among);
      }),
    );
  }

-- what stands for a history stands for all for which this one does
pub stands_further : (queries : List Query) (first second third : List Entry) → StandsFor queries first second →
    StandsFor queries second third → StandsFor queries first third
stands_further queries first second third one two = λ later.
    alike_further queries (first ++ later) (second ++ later) (third ++ later) (one later) (two later)

-- and so it does with entries that follow
pub stands_with : (queries : List Query) (history entries new : List Entry) → StandsFor queries history entries →
    StandsFor queries (history ++ new) (entries ++ new)
stands_with queries history entries new stands = λ later.
    subst (λ (all : List Entry). AnswerAlike queries all ((entries ++ new) ++ later)) (sym (append_assoc history new later))
    (subst (λ (all : List Entry). AnswerAlike queries (history ++ (new ++ later)) all) (sym (append_assoc entries new later))
    (stands (new ++ later)))

-- ---- what entries bring behind them

module _ (queries : List Query) (history entries : List Entry) (stands : StandsFor queries history entries) where
  answers_there : (later : List Entry) (query : Query) (pairs : List Pair) → Contains queries query →
      AreAnswers (path_query query) (history ++ later) pairs → AreAnswers (path_query query) (entries ++ later) pairs
  answers_there later query pairs among are = record {
    sorted = are.sorted;
    exact = λ pair.
        let both = (stands later).answers query among pair in (
          (λ member. both.0 ((are.exact pair).0 member)),
          (λ answer. (are.exact pair).1 (both.1 answer)),
        );
  }

  events_there : (some : List Query) (number : ℕ) (later further : List Entry) (events : List Event) →
      ((query : Query) → Contains some query → Contains queries query) →
      AreEventsUnder number some (history ++ later) (history ++ further) events →
      AreEventsUnder number some (entries ++ later) (entries ++ further) events
  events_there [] number later further events among are = are
  events_there (query ∷ some) number later further events among are =
      let own = are.2 in
      let here = among query ((cons_members query some query).1 (inl refl)) in (
        are.0,
        are.1,
        (
          own.0,
          own.1,
          answers_there later query own.0 here own.2,
          answers_there further query own.1 here own.3,
          own.4,
        ),
        events_there some (number + 1) later further are.1
            (λ each at. among each ((cons_members query some each).1 (inr at))) are.3,
        are.4,
      )

  family_there : (later : List Entry) (pairs : Family) → AreAnswersOf queries (history ++ later) pairs →
      AreAnswersOf queries (entries ++ later) pairs
  family_there later pairs are = λ number query there.
      answers_there later query (pairs number) (at_place queries number query there) (are number query there)

  step_there : (joins : List JoinValue) (paths : Bool) (later further : List Entry) (step : StepValue) →
      IsStep (record { two_way = false; paths = paths; joins = joins }) queries (history ++ later) (history ++ further) step →
      IsStep (no_paths joins) queries (entries ++ later) (entries ++ further) (without_paths step)
  step_there joins paths later further step is = record {
    events = events_there queries 0 later further step.events (λ query among. among) is.events;
    shown = λ told.
        let no : false ≡ true = told in
        absurd (cc no);
    none_shown = λ _. refl;
    joined = record {
      changes = is.joined.changes;
      are = record {
        old = is.joined.are.old;
        new = is.joined.are.new;
        were = family_there later is.joined.are.old is.joined.are.were;
        are = family_there further is.joined.are.new is.joined.are.are;
        changes = is.joined.are.changes;
      };
      lines_are = is.joined.lines_are;
    };
  }

  pub steps_there : (new later : List Entry) (steps : List StepValue) (joins : List JoinValue) (paths : Bool) →
      AreStepsFrom (record { two_way = false; paths = paths; joins = joins }) queries (history ++ later) new steps →
      AreStepsFrom (no_paths joins) queries (entries ++ later) new (map without_paths steps)
  steps_there [] later [] joins paths are = tt
  steps_there [] later (step ∷ steps) joins paths are = absurd are
  steps_there (entry ∷ new) later [] joins paths are = absurd are
  steps_there (entry ∷ new) later (step ∷ steps) joins paths are =
      let further = later ++ entry ∷ [] in (
        subst (λ (all : List Entry). IsStep (no_paths joins) queries (entries ++ later) all (without_paths step))
            (sym (append_assoc entries later (entry ∷ [])))
            (step_there joins paths later further step
            (subst (λ (all : List Entry).
            IsStep (record { two_way = false; paths = paths; joins = joins }) queries (history ++ later) all step)
            (append_assoc history later (entry ∷ [])) are.0)),
        subst (λ (all : List Entry). AreStepsFrom (no_paths joins) queries all new (map without_paths steps))
            (sym (append_assoc entries later (entry ∷ [])))
            (steps_there new further steps joins paths
            (subst (λ (all : List Entry). AreStepsFrom (record { two_way = false; paths = paths; joins = joins }) queries all new steps)
            (append_assoc history later (entry ∷ [])) are.1)),
      )
