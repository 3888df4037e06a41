-- What is told of the entries that the engine answered. Only private contracts cite this file.
use Rattle.std.specs.Prelude.{◌≡◌, ◌≤◌, Bool, true, false, List, [], ◌++◌, length, Contains}
use Rattle.std.specs.Prelude.{Option, Some, None, slice_get}
use Rattle.rpq_base.specs.declared.data.Entry.{Entry}
use Rattle.rpq_base.specs.declared.data.Event.{Event}
use Rattle.rpq_model.specs.Answers.{IsAnswer}
use Rattle.rpq_model.specs.Query.{Query, path_query}
use Rattle.two_way.specs.TwoWay.{walked, AreAllWalkedEventsFrom}
use Rattle.join_bindings.specs.State.{JoinsValue}
use Rattle.path_engine.specs.Engine.{EngineValue, StandsFor, definitions}
use Rattle.path_witness.specs.Marks.{MarksValue, StandsFor as MarksStandFor}
use Rattle.path_witness.specs.Shows.{Shown}
use Rattle.entry_steps.specs.Steps.{OptionsValue, StepValue, AreShown, AreStepsFrom, AreEvaluable}
use Rattle.entry_steps.specs.Steps.{additions}
use Rattle.entry_steps.specs.Joining.{HaveJoins}

-- where paths are told, the marks are those of the queries, and stand for this history; else there
-- are none
abbrev pub HaveMarks : Bool → List Query → List Entry → Option MarksValue → Type 0
HaveMarks paths queries history None = paths ≡ false
HaveMarks paths queries history (Some marks) =
    (paths ≡ true) × (marks.queries ≡ queries) × MarksStandFor marks history

-- marks that are there took these entries
abbrev pub TakesAll : Option MarksValue → List Entry → Option MarksValue → Type 0
TakesAll None entries None = Unit {0}
TakesAll None entries (Some new) = ⊥
TakesAll (Some old) entries None = ⊥
TakesAll (Some old) entries (Some new) = (new.queries ≡ old.queries)
    × ((history : List Entry) → MarksStandFor old history → MarksStandFor new (history ++ entries))

-- the engine and the marks, of its queries, which can be evaluated, stand for the history
pub record IsOver (engine : EngineValue) (marks : MarksValue) (history : List Entry)
    : Type 0 where
  pub stands : StandsFor engine history
  pub marked : MarksStandFor marks history
  pub queries : marks.queries ≡ definitions engine
  pub evaluable : AreEvaluable (definitions engine)

-- the event's pair is an answer of its query over the history
pub record IsGained (queries : List Query) (history : List Entry) (event : Event) : Type 0 where
  pub query : Query
  pub there : slice_get queries event.query ≡ Some query
  pub answer : IsAnswer (path_query query) history event.pair

-- the engine and the marks can show what these events gain
pub record CanShow (engine : EngineValue) (marks : MarksValue) (history : List Entry)
    (events : List Event) : Type 0 where
  pub over : IsOver engine marks history
  pub gained : (event : Event) → Contains events event → event.added ≡ true →
      IsGained (definitions engine) history event

-- where there are marks, there is a history over which they can show what these events gain
abbrev pub MayShow : EngineValue → Option MarksValue → List Event → Type 0
MayShow engine None events = Unit {0}
MayShow engine (Some marks) events = (history : List Entry) × CanShow engine marks history events

-- what is shown of these events: nothing without marks, else a path for each addition, over each
-- history over which the marks can show what the events gain
abbrev pub AreShownBy : EngineValue → Option MarksValue → List Event → List Shown → Type 0
AreShownBy engine None events shown = shown ≡ []
AreShownBy engine (Some marks) events shown = (history : List Entry) →
    CanShow engine marks history events →
    AreShown (definitions engine) history (additions events) shown

-- behind this history the engine answered these entries, each by the events in its place, and now
-- it stands for all of them, where the marks and the joins stand for the history alone; where paths
-- are told, edges aren't taken backwards, and there is one entry at most
pub record AreFound (options : OptionsValue) (engine : EngineValue) (marks : Option MarksValue)
    (joins : Option JoinsValue) (before later : List Entry) (lists : List (List Event))
    : Type 0 where
  pub stands : StandsFor engine (walked options.two_way (before ++ later))
  pub events : AreAllWalkedEventsFrom options.two_way (definitions engine) before later lists
  pub evaluable : AreEvaluable (definitions engine)
  pub marked : HaveMarks options.paths (definitions engine) before marks
  pub joined : HaveJoins options.joins (definitions engine) (walked options.two_way before) joins
  pub forwards : options.paths ≡ true → options.two_way ≡ false
  pub one : options.paths ≡ true → length later ≤ 1

-- behind this history these are the steps of the entries, and the marks and the joins stand for all
-- of them
pub record AreStepsOf (options : OptionsValue) (engine : EngineValue) (marks : Option MarksValue)
    (joins : Option JoinsValue) (before later : List Entry) (steps : List StepValue)
    : Type 0 where
  pub are_steps : AreStepsFrom options (definitions engine) before later steps
  pub marked : HaveMarks options.paths (definitions engine) (before ++ later) marks
  pub joined : HaveJoins options.joins (definitions engine)
      (walked options.two_way (before ++ later)) joins
