-- What the entries bring that the engine answered: their events, what is shown of them, and what
-- the joins tell.
use Rattle.std.proofs.Common.{◌≡◌, ℕ, zero, suc, ◌+◌, ◌^◌, ◌<◌, ◌≤◌, Bool, true, false}
use Rattle.std.proofs.Common.{List, [], ◌∷◌, ◌++◌, length, map, get_or, take, cond}
use Rattle.std.proofs.Common.{Option, Some, None, slice_get}
use Rattle.std.proofs.Common.{refl, sym, ap, subst, ◌∙◌, ⊎_elim, arith, append-nil, length-append}
use Rattle.std.proofs.Common.{Vec, Global}
use Rattle.std.specs.Prelude.{Contains, IfSome}
use Rattle.std.specs.List.{All}
use Rattle.std.proofs.lemmas.Bool.{false≢true}
use Rattle.std.proofs.lemmas.List.Elements.{All-nil, All-cons, All-head, All-tail, All-weaker}
use Rattle.std.proofs.lemmas.List.Elements.{All-get_or, Contains-append_cases}
use Rattle.std.proofs.lemmas.List.Elements.{filter_more}
use Rattle.std.proofs.lemmas.Option.{slice_get_within, get_or_from_slice_get}
use Rattle.std.proofs.lemmas.Slice.Zip.{all_zipped_more}
use Rattle.rpq_base.specs.Laws.{SameIsEqual}
use Rattle.rpq_base.specs.declared.data.Entry.{Entry}
use Rattle.rpq_base.specs.declared.data.Edge.{Edge}
use Rattle.rpq_base.specs.declared.data.Event.{Event}
use Rattle.rpq_base.specs.declared.data.Pair.{Pair}
use Rattle.rpq_base.proofs.Equality.{names, labels, edges, pairs}
use Rattle.rpq_base.proofs.Members.{none_in}
use Rattle.rpq_model.specs.Answers.{IsAnswer}
use Rattle.rpq_model.specs.Query.{Query, path_query}
use Rattle.rpq_model.specs.QueryEvents.{AreEventsUnder}
use Rattle.rpq_model.proofs.ByMembers.{events_are_changes}
use Rattle.two_way.specs.TwoWay.{walked, AreAllWalkedEventsFrom}
use Rattle.join_bindings.specs.HaveJoinEvents.{HaveJoinEvents}
use Rattle.join_bindings.specs.Leading.{EventsLeadOn}
use Rattle.join_bindings.specs.State.{JoinsValue}
use Rattle.containment_laws.specs.Accepted.{IsAccepted}
use Rattle.query_file.specs.Compiled.{CompiledValue}
use Rattle.index_laws.specs.LawsOfPaths.{IsBestPathOf}
use Rattle.path_engine.specs.Engine.{EngineValue, StandsFor, definitions}
use Rattle.query_index.specs.Paths.{ShowsPair}
use Rattle.path_witness.specs.BestPaths.{IsBestFor}
use Rattle.path_witness.specs.Marks.{MarksValue}
use Rattle.path_witness.specs.Shows.{Shown, Shows}
use Rattle.entry_steps.specs.Steps.{OptionsValue, StepValue, IsShown, AreShown, AreStepsFrom}
use Rattle.entry_steps.specs.Steps.{additions, events_of, lines_of}
use Rattle.entry_steps.specs.Joining.{HaveJoins, MayTakeEach, TakesEach}
use Rattle.entry_steps.specs.Showing.{TakesAll, IsOver, IsGained, CanShow, MayShow, AreShownBy}
use Rattle.entry_steps.specs.Showing.{AreFound, AreStepsOf, HaveMarks}
use Rattle.entry_steps.specs.Telling.{steps_with, TellsNothing, AreToldBeside}
use Rattle.entry_steps.specs.declared.unnamed_steps.PathsAndJoins.{PathsAndJoins}
use Rattle.entry_steps.proofs.Taking.{AreLinesFrom, may_take_each, told_each}
use Rattle.entry_steps.proofs.Telling.{as_many_lists, events_with, none_shown, none_taken}

-- ---- what events gain

same_is_equal : SameIsEqual
same_is_equal = record { names = names; labels = labels; edges = edges; pairs = pairs }

-- the pair of the event is an answer of its query, of those of which the first has this number
record IsGainedUnder (number : ℕ) (queries : List Query) (history : List Entry) (event : Event)
    : Type 0 where
  place : ℕ
  query : Query
  is : event.query ≡ number + place
  there : slice_get queries place ≡ Some query
  answer : IsAnswer (path_query query) history event.pair

-- an addition among the events from one history to another is an answer over the second
gained_under : (queries : List Query) (number : ℕ) (before after : List Entry)
    (events : List Event) → AreEventsUnder number queries before after events →
    (event : Event) → Contains events event → event.added ≡ true →
    IsGainedUnder number queries after event
gained_under [] number before after events are event member added =
    absurd (none_in event (subst (λ (all : List Event). Contains all event) are member))
gained_under (query ∷ queries) number before after events are event member added = ⊎_elim
    (λ own.
    let change = (events_are_changes same_is_equal (path_query query) number before after are.0
    are.2 event).0 own in
    record {
      place = 0;
      query = query;
      is = omega (arith, change.0);
      there = refl;
      answer = ⊎_elim (λ lost. absurd (false≢true (sym lost.0 ∙ added))) (λ gained. gained.1)
          change.1;
    })
    (λ later.
    let further = gained_under queries (number + 1) before after are.1 are.3 event later added in
    record {
      place = suc further.place;
      query = further.query;
      is = omega (arith, further.is);
      there = further.there;
      answer = further.answer;
    })
    (Contains-append_cases are.0 are.1 event
    (subst (λ (all : List Event). Contains all event) are.4 member))

-- each addition among the events is an answer over the history
abbrev Gain : List Query → List Entry → List Event → Type 0
Gain queries history events =
    (event : Event) → Contains events event → event.added ≡ true → IsGained queries history event

events_gain : (queries : List Query) (before after : List Entry) (events : List Event) →
    AreEventsUnder 0 queries before after events → Gain queries after events
events_gain queries before after events are event member added =
    let found = gained_under queries 0 before after events are event member added in
    record {
      query = found.query;
      there = subst (λ (place : ℕ). slice_get queries place ≡ Some found.query)
          (omega (arith, found.is)) found.there;
      answer = found.answer;
    }

-- behind a history comes one entry at most, so all its events are as of the history with it
each_gains : (queries : List Query) (before later : List Entry) (lists : List (List Event)) →
    length later ≤ 1 → AreAllWalkedEventsFrom false queries before later lists →
    All (Gain queries (before ++ later)) lists
each_gains queries before [] [] few are = All-nil (Gain queries (before ++ []))
each_gains queries before [] (events ∷ rest) few are = absurd are
each_gains queries before (entry ∷ later) [] few are = absurd are
each_gains queries before (entry ∷ []) (events ∷ []) few are =
    let after = before ++ entry ∷ [] in
    All-cons (Gain queries after) events [] (events_gain queries before after events are.0)
    (All-nil (Gain queries after))
each_gains queries before (entry ∷ []) (events ∷ more ∷ rest) few are = absurd are.1
each_gains queries before (entry ∷ next ∷ later) (events ∷ rest) few are =
    absurd (omega (arith, few))

-- ---- what can be shown

-- what holds of what elements give holds of it element by element
pub each_given : {X Y : Type 0} (P : Y → Type 0) (give : X → Y) (elements : List X) →
    All P (map give elements) → All (λ x. P (give x)) elements
each_given P give [] all = All-nil (λ x. P (give x))
each_given P give (first ∷ rest) all =
    All-cons (λ x. P (give x)) first rest (All-head P (give first) (map give rest) all)
    (each_given P give rest (All-tail P (give first) (map give rest) all))

-- the engine found the events of the entries, and the marks took them
module _ (options : OptionsValue) (engine : EngineValue) (joins : Option JoinsValue)
    (before later : List Entry) (lists : List (List Event)) where
  is_over : (old new : MarksValue) → AreFound options engine (Some old) joins before later lists →
      TakesAll (Some old) later (Some new) → IsOver engine new (before ++ later)
  is_over old new found takes = record {
    stands = subst (λ (two_way : Bool). StandsFor engine (walked two_way (before ++ later)))
        (found.forwards found.marked.0) found.stands;
    marked = takes.1 before found.marked.2;
    queries = takes.0 ∙ found.marked.1;
    evaluable = found.evaluable;
  }

  -- they can show what each of them gains, over all of them
  each_can_show : (old new : MarksValue) →
      AreFound options engine (Some old) joins before later lists →
      TakesAll (Some old) later (Some new) → All (CanShow engine new (before ++ later)) lists
  each_can_show old new found takes =
      All-weaker (Gain (definitions engine) (before ++ later))
      (CanShow engine new (before ++ later))
      (λ events gain. record { over = is_over old new found takes; gained = gain }) lists
      (each_gains (definitions engine) before later lists (found.one found.marked.0)
      (subst (λ (two_way : Bool).
      AreAllWalkedEventsFrom two_way (definitions engine) before later lists)
      (found.forwards found.marked.0) found.events))

  pub each_may_show : (old new : Option MarksValue) →
      AreFound options engine old joins before later lists → TakesAll old later new →
      All (MayShow engine new) lists
  each_may_show None None found takes = λ k d below. tt
  each_may_show None (Some new) found takes = absurd takes
  each_may_show (Some old) None found takes = absurd takes
  each_may_show (Some old) (Some new) found takes =
      All-weaker (CanShow engine new (before ++ later)) (MayShow engine (Some new))
      (λ events can. (before ++ later, can)) lists (each_can_show old new found takes)

-- ---- the steps

-- where no paths are told, there are the events and the lines of the joins
steps_untold : (options : OptionsValue) (queries : List Query) → options.paths ≡ false →
    (later before : List Entry) (steps : List StepValue) →
    AreAllWalkedEventsFrom options.two_way queries before later (events_of steps) →
    AreLinesFrom options.two_way queries options.joins before later (lines_of steps) →
    All (λ (step : StepValue). step.shown ≡ []) steps →
    AreStepsFrom options queries before later steps
steps_untold options queries none [] before [] are told shown = tt
steps_untold options queries none [] before (step ∷ rest) are told shown = absurd are
steps_untold options queries none (entry ∷ later) before [] are told shown = absurd are
steps_untold options queries none (entry ∷ later) before (step ∷ rest) are told shown =
    let None_shown = λ (each : StepValue). each.shown ≡ [] in (
      record {
        events = are.0;
        shown = λ paths. absurd (false≢true (sym none ∙ paths));
        none_shown = λ _. All-head None_shown step rest shown;
        joined = told.0;
      },
      steps_untold options queries none later (before ++ entry ∷ []) rest are.1 told.1
          (All-tail None_shown step rest shown),
    )

-- where paths are told, there are those that are shown over all entries, of which there is one at
-- most
steps_told : (options : OptionsValue) (queries : List Query) → options.paths ≡ true →
    options.two_way ≡ false → (before later : List Entry) (steps : List StepValue) →
    length later ≤ 1 →
    AreAllWalkedEventsFrom options.two_way queries before later (events_of steps) →
    AreLinesFrom options.two_way queries options.joins before later (lines_of steps) →
    All (λ (step : StepValue).
    AreShown queries (before ++ later) (additions step.events) step.shown) steps →
    AreStepsFrom options queries before later steps
steps_told options queries paths forwards before [] [] few are told shown = tt
steps_told options queries paths forwards before [] (step ∷ rest) few are told shown = absurd are
steps_told options queries paths forwards before (entry ∷ later) [] few are told shown = absurd are
steps_told options queries paths forwards before (entry ∷ []) (step ∷ []) few are told shown = (
  record {
    events = are.0;
    shown = λ _. subst (λ (two_way : Bool). AreShown queries
        (walked two_way (before ++ entry ∷ [])) (additions step.events) step.shown)
        (sym forwards)
        (All-head (λ (each : StepValue).
        AreShown queries (before ++ entry ∷ []) (additions each.events) each.shown) step [] shown);
    none_shown = λ none. absurd (false≢true (sym none ∙ paths));
    joined = told.0;
  },
  tt,
)
steps_told options queries paths forwards before (entry ∷ []) (step ∷ more ∷ rest) few are told
    shown =
    absurd are.1
steps_told options queries paths forwards before (entry ∷ next ∷ later) (step ∷ rest) few are told
    shown =
    absurd (omega (arith, few))

-- the steps have the events that were found, what the marks show of these, and the lines that the
-- joins tell of them
module _ (options : OptionsValue) (engine : EngineValue) (joins_old joins_new : Option JoinsValue)
    (before later : List Entry) (lists : List (List Event)) (steps : List StepValue)
    (same : events_of steps ≡ lists)
    (told : AreLinesFrom options.two_way (definitions engine) options.joins before later
    (lines_of steps)
    × HaveJoins options.joins (definitions engine) (walked options.two_way (before ++ later))
    joins_new) where
  found_by_steps : {marks : Option MarksValue} →
      AreFound options engine marks joins_old before later lists →
      AreAllWalkedEventsFrom options.two_way (definitions engine) before later (events_of steps)
  found_by_steps found = subst (λ (all : List (List Event)).
      AreAllWalkedEventsFrom options.two_way (definitions engine) before later all) (sym same)
      found.events

  steps_are : (old new : Option MarksValue) → TakesAll old later new →
      All (λ (step : StepValue). AreShownBy engine new step.events step.shown) steps →
      AreFound options engine old joins_old before later lists →
      AreStepsOf options engine new joins_new before later steps
  steps_are None None takes shown found = record {
    are_steps = steps_untold options (definitions engine) found.marked later before steps
        (found_by_steps found) told.0 shown;
    marked = found.marked;
    joined = told.1;
  }
  steps_are None (Some new) takes shown found = absurd takes
  steps_are (Some old) None takes shown found = absurd takes
  steps_are (Some old) (Some new) takes shown found =
      let all = before ++ later in
      let paths = found.marked.0 in
      let can : All (λ (step : StepValue). CanShow engine new all step.events) steps =
      each_given (CanShow engine new all) (λ (step : StepValue). step.events) steps
      (subst (All (CanShow engine new all)) (sym same)
      (each_can_show options engine joins_old before later lists old new found takes)) in
      record {
        are_steps = steps_told options (definitions engine) paths (found.forwards paths) before
            later steps (found.one paths) (found_by_steps found) told.0
            (λ k d below. shown k d below all (can k d below));
        marked = (paths, takes.0 ∙ found.marked.1, takes.1 before found.marked.2);
        joined = told.1;
      }

-- the events that were found can be taken by the joins
pub found_may_take : EventsLeadOn → (options : OptionsValue) (engine : EngineValue)
    (marks : Option MarksValue) (joins : Option JoinsValue) (before later : List Entry)
    (lists : List (List Event)) → AreFound options engine marks joins before later lists →
    MayTakeEach joins lists
found_may_take law options engine marks joins before later lists found =
    may_take_each law options.two_way (definitions engine) options.joins later before lists joins
    found.events found.joined

-- marks that are there have numbers left for the entries, since a position counts them as well
pub few_taken : (paths : Bool) (queries : List Query) (marks : Option MarksValue)
    (before later : List Entry) (position : ℕ) → HaveMarks paths queries before marks →
    position ≡ length (before ++ later) → position < 2 ^ 64 →
    IfSome marks (λ (own : MarksValue). own.taken + length later < 2 ^ 64)
few_taken paths queries None before later position marked counted below = tt
few_taken paths queries (Some own) before later position marked counted below =
    omega (arith, marked.2.counted, counted, length-append before later, below)

pub steps_follow : EventsLeadOn → HaveJoinEvents → (options : OptionsValue) (engine : EngineValue)
    (old new : Option MarksValue) (joins_old joins_new : Option JoinsValue)
    (before later : List Entry) (lists : List (List Event)) (steps : List StepValue) →
    TakesAll old later new → events_of steps ≡ lists →
    All (λ (step : StepValue). AreShownBy engine new step.events step.shown) steps →
    TakesEach joins_old lists joins_new (lines_of steps) →
    AreFound options engine old joins_old before later lists →
    AreStepsOf options engine new joins_new before later steps
steps_follow law some options engine old new joins_old joins_new before later lists steps takes
    same shown taken found =
    steps_are options engine joins_old joins_new before later lists steps same
    (told_each law options.two_way (definitions engine) options.joins some found.evaluable.accepted
    later before lists (lines_of steps) joins_old joins_new found.events found.joined taken)
    old new takes shown found

-- where there are neither marks nor joins, nothing is told beside the events
pub nothing_told : EventsLeadOn → HaveJoinEvents → (options : OptionsValue)
    (engine : EngineValue) (before later : List Entry) (lists : List (List Event))
    (beside : List PathsAndJoins) → length beside ≡ length later → All TellsNothing beside →
    AreFound options engine None None before later lists →
    AreToldBeside options engine None None before later lists beside
nothing_told law some options engine before later lists beside many nothing found =
    let all : length beside ≡ length lists = many ∙ sym (as_many_lists options.two_way
    (definitions engine) later before lists found.events) in
    record {
      many = all;
      are = steps_follow law some options engine None None None None before later lists
          (steps_with lists beside) tt (events_with lists beside all) (none_shown lists beside nothing)
          (none_taken lists beside all nothing) found;
    }

-- ---- a path

-- the query with a number among an engine's definitions is that of a compiled query
pub record IsDefinedAt (compiled : List CompiledValue) (number : ℕ) (query : Query)
    : Type 0 where
  pub each : CompiledValue
  pub there : slice_get compiled number ≡ Some each
  pub is : each.def ≡ query

pub defined_at : (compiled : List CompiledValue) (number : ℕ) (query : Query) →
    slice_get (map (λ (each : CompiledValue). each.def) compiled) number ≡ Some query →
    IsDefinedAt compiled number query
defined_at [] number query there = absurd cc
defined_at (first ∷ rest) zero query there = record { each = first; there = refl; is = cc }
defined_at (first ∷ rest) (suc number) query there =
    let further = defined_at rest number query there in
    record { each = further.each; there = further.there; is = further.is }

-- what an engine gives for an event's pair shows the pair, over each history for which the engine
-- stands
abbrev ShowFound : EngineValue → Event → Option (Vec Edge Global) → Type 0
ShowFound engine event found = (history : List Entry) → StandsFor engine history →
    (compiled : CompiledValue) → slice_get engine.queries event.query ≡ Some compiled →
    ShowsPair compiled.def history event.pair found

shows_gained : (engine : EngineValue) (history : List Entry) (event : Event)
    (found : Option (Vec Edge Global)) → ShowFound engine event found →
    StandsFor engine history → (gained : IsGained (definitions engine) history event) →
    ShowsPair gained.query history event.pair found
shows_gained engine history event found shows stands gained =
    let defined = defined_at engine.queries event.query gained.query gained.there in
    subst (λ (query : Query). ShowsPair query history event.pair found) defined.is
    (shows history stands defined.each defined.there)

-- so it gives something for a gained pair
pub gained_found : (engine : EngineValue) (history : List Entry) (event : Event)
    (found : Option (Vec Edge Global)) → found ≡ None → ShowFound engine event found →
    StandsFor engine history → IsGained (definitions engine) history event → ⊥
gained_found engine history event found none shows stands gained =
    subst (ShowsPair gained.query history event.pair) none
    (shows_gained engine history event found shows stands gained) gained.answer

-- and that is a best path
pub gained_best : (engine : EngineValue) (history : List Entry) (event : Event)
    (found : Option (Vec Edge Global)) (path : Vec Edge Global) → found ≡ Some path →
    ShowFound engine event found → StandsFor engine history →
    (gained : IsGained (definitions engine) history event) →
    IsBestPathOf gained.query history event.pair path.items
gained_best engine history event found path some shows stands gained =
    subst (ShowsPair gained.query history event.pair) some
    (shows_gained engine history event found shows stands gained)

-- a gained pair's best path is one that the marks can show
pub best_for : (engine : EngineValue) (marks : MarksValue) (history : List Entry) (event : Event)
    (path : List Edge) → IsOver engine marks history →
    (gained : IsGained (definitions engine) history event) →
    IsBestPathOf gained.query history event.pair path →
    IsBestFor marks event.query path history gained.query event.pair
best_for engine marks history event path over gained best =
    let queries = definitions engine in
    record {
      stands = over.marked;
      there = subst (λ (qs : List Query). slice_get qs event.query ≡ Some gained.query)
          (sym over.queries) gained.there;
      accepted = subst IsAccepted
          (get_or_from_slice_get queries event.query gained.query gained.query gained.there)
          (All-get_or IsAccepted queries event.query gained.query
          (slice_get_within queries event.query gained.query gained.there)
          over.evaluable.accepted);
      best = best;
    }

-- what the marks give for such a path shows the pair
pub is_shown : (engine : EngineValue) (marks : MarksValue) (history : List Entry) (event : Event)
    (path : List Edge) (shown : Shown) → IsOver engine marks history →
    (gained : IsGained (definitions engine) history event) →
    IsBestPathOf gained.query history event.pair path →
    ((other : List Entry) (query : Query) (pair : Pair) →
    IsBestFor marks event.query path other query pair → Shows query other pair shown) →
    IsShown (definitions engine) history event shown
is_shown engine marks history event path shown over gained best shows = record {
  query = gained.query;
  there = gained.there;
  shows = shows history gained.query event.pair
      (best_for engine marks history event path over gained best);
}

-- ---- going through events

-- one event more: an addition comes with a path, and another event with nothing
pub shown_more : (queries : List Query) (history : List Entry) (events : List Event) (i : ℕ)
    (event : Event) (shown : List Shown) (one : Shown) → i < length events →
    event ≡ get_or events i event → event.added ≡ true →
    IsShown queries history event one →
    AreShown queries history (additions (take i events)) shown →
    AreShown queries history (additions (take (i + 1) events)) (shown ++ one ∷ [])
shown_more queries history events i event shown one below is added shows so_far =
    subst (λ (all : List Event). AreShown queries history all (shown ++ one ∷ []))
    (sym (filter_more (λ (each : Event). each.added) events i event below
    ∙ (ap (λ (each : Event). additions (take i events) ++ cond each.added (each ∷ []) []) (sym is)
    ∙ ap (λ (test : Bool). additions (take i events) ++ cond test (event ∷ []) []) added)))
    (all_zipped_more (IsShown queries history) (additions (take i events)) shown event one so_far
    shows)

pub nothing_more : (events : List Event) (i : ℕ) (event : Event) → i < length events →
    event ≡ get_or events i event → event.added ≡ false →
    additions (take (i + 1) events) ≡ additions (take i events)
nothing_more events i event below is lost =
    filter_more (λ (each : Event). each.added) events i event below
    ∙ (ap (λ (each : Event). additions (take i events) ++ cond each.added (each ∷ []) []) (sym is)
    ∙ (ap (λ (test : Bool). additions (take i events) ++ cond test (event ∷ []) []) lost
    ∙ append-nil (additions (take i events))))
