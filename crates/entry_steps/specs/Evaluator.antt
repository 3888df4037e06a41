-- Evaluators, and the histories after which they stand.
use Rattle.std.specs.Prelude.{◌≡◌, ℕ, ◌<◌, List, [], ◌++◌, length, All, Option}
use Rattle.rpq_base.specs.declared.data.Entry.{Entry}
use Rattle.rpq_base.specs.declared.data.Event.{Event}
use Rattle.rpq_model.specs.Query.{Query}
use Rattle.alike_histories.specs.Alike.{AllSeeAlike}
use Rattle.answer_view.specs.View.{ViewValue}
use Rattle.two_way.specs.TwoWay.{walked, AreAllWalkedEventsFrom}
use Rattle.join_bindings.specs.State.{JoinsValue}
use Rattle.engine_feed.specs.declared.event_lists.EventLists.{EventLists}
use Rattle.engine_feed.specs.EventLists.{lists_of, HaveNames}
use Rattle.path_engine.specs.Engine.{EngineValue, StandsFor, definitions}
use Rattle.path_engine.specs.Views.{IsViewAt}
use Rattle.path_witness.specs.Marks.{MarksValue}
use Rattle.query_file.specs.Compiled.{CompiledValue}
use Rattle.entry_steps.specs.Joining.{HaveJoins}
use Rattle.entry_steps.specs.Showing.{HaveMarks}
use Rattle.entry_steps.specs.Steps.{OptionsValue, StepValue, AreStepsFrom, events_of}
use Rattle.entry_steps.specs.Telling.{steps_with}
use Rattle.entry_steps.specs.declared.unnamed_steps.UnnamedSteps.{UnnamedSteps}

-- an engine; how its queries are evaluated, and what is told of them; the marks of live entries and
-- the joins with the answers of their queries, where they are wanted; how many entries the history
-- has for which the engine stands; and how many workers it has
pub record EvaluatorValue : Type 0 where
  pub engine : EngineValue
  pub options : OptionsValue
  pub marks : Option MarksValue
  pub joins : Option JoinsValue
  pub position : ℕ
  pub workers : ℕ

-- the queries of an evaluator, in order
abbrev pub compiled_of : EvaluatorValue → List CompiledValue
compiled_of evaluator = evaluator.engine.queries

-- and their definitions
abbrev pub queries_of : EvaluatorValue → List Query
queries_of evaluator = definitions evaluator.engine

-- the engine stands for what its queries are evaluated over, of this history, whose length is the
-- position
pub record IsFedOver (evaluator : EvaluatorValue) (history : List Entry) : Type 0 where
  pub stands : StandsFor evaluator.engine (walked evaluator.options.two_way history)
  pub counted : evaluator.position ≡ length history

-- what the evaluator's queries are evaluated over looks the same to them, whether it is of the
-- entries that are kept or of the history, in whose place they are then
abbrev pub StandsInFor : EvaluatorValue → List Entry → List Entry → Type 0
StandsInFor evaluator kept history = AllSeeAlike (queries_of evaluator)
    (walked evaluator.options.two_way kept) (walked evaluator.options.two_way history)

-- what is told beside the events is told up to this history: the marks that are wanted stand for
-- it, and the joins have the answers over what the queries are evaluated over, of it
pub record TellsUpTo (evaluator : EvaluatorValue) (history : List Entry) : Type 0 where
  pub marked : HaveMarks evaluator.options.paths (queries_of evaluator) history evaluator.marks
  pub joined : HaveJoins evaluator.options.joins (queries_of evaluator)
      (walked evaluator.options.two_way history) evaluator.joins

-- the evaluator stands after the history: each of its entries has brought its step
pub record StandsAfter (evaluator : EvaluatorValue) (history : List Entry) : Type 0 where
  pub fed : IsFedOver evaluator history
  pub tells : TellsUpTo evaluator history

-- each of the events has the number of a query
abbrev pub AreNumbered : EvaluatorValue → List (List Event) → Type 0
AreNumbered evaluator lists = All (λ (own : List Event).
    All (λ (event : Event). event.query < length (compiled_of evaluator)) own) lists

-- the events of each entry that the engine was fed, with their names
abbrev pub found_in : EvaluatorValue → EventLists → List (List Event)
found_in evaluator found = lists_of evaluator.engine.names found

-- behind this history the engine was fed these entries, and found of each the events in its place,
-- which have the numbers of queries
pub record Finds (before : List Entry) (evaluator : EvaluatorValue) (later : List Entry)
    (found : EventLists) : Type 0 where
  pub fed : IsFedOver evaluator (before ++ later)
  pub events : AreAllWalkedEventsFrom evaluator.options.two_way (queries_of evaluator) before later
      (found_in evaluator found)
  pub numbers : AreNumbered evaluator (found_in evaluator found)
  pub have_names : HaveNames evaluator.engine.names found

-- the engine is ahead of what is told by these entries, of which it found these events
pub record IsAhead (before : List Entry) (evaluator : EvaluatorValue) (later : List Entry)
    (found : EventLists) : Type 0 where
  pub finds : Finds before evaluator later found
  pub tells : TellsUpTo evaluator before

-- behind this history each of these entries brought the step in its place, whose events have the
-- numbers of queries, and now the evaluator stands after all of them
pub record Brings (before : List Entry) (evaluator : EvaluatorValue) (later : List Entry)
    (steps : List StepValue) : Type 0 where
  pub stands : StandsAfter evaluator (before ++ later)
  pub are_steps : AreStepsFrom evaluator.options (queries_of evaluator) before later steps
  pub numbers : AreNumbered evaluator (events_of steps)

-- the steps that are told, by the names of the evaluator
abbrev pub steps_told : EvaluatorValue → UnnamedSteps → List StepValue
steps_told evaluator told = steps_with (found_in evaluator told.found) told.beside.items

-- what is told is of this evaluator: its events have numbers of the evaluator's names, and there is
-- something beside the events of each entry
pub record IsToldBy (evaluator : EvaluatorValue) (told : UnnamedSteps) : Type 0 where
  pub have_names : HaveNames evaluator.engine.names told.found
  pub many : length told.beside.items ≡ length (found_in evaluator told.found)

-- behind this history each of these entries brought the step that is told in its place
pub record Tells (before : List Entry) (evaluator : EvaluatorValue) (later : List Entry)
    (told : UnnamedSteps) : Type 0 where
  pub brings : Brings before evaluator later (steps_told evaluator told)
  pub told_is : IsToldBy evaluator told

-- the queries, how they are evaluated and told, and the workers stay
pub record KeepsSetup (old new : EvaluatorValue) : Type 0 where
  pub queries : compiled_of new ≡ compiled_of old
  pub options : new.options ≡ old.options
  pub workers : new.workers ≡ old.workers

-- only the engine changes, and the position
pub record OnlyFeeds (old new : EvaluatorValue) : Type 0 where
  pub setup : KeepsSetup old new
  pub marks : new.marks ≡ old.marks
  pub joins : new.joins ≡ old.joins

-- the view has the length of the history as its position, and the clock and the answers over what
-- the queries are evaluated over, of this history
abbrev pub IsViewAfter : EvaluatorValue → List Entry → ViewValue → Type 0
IsViewAfter evaluator history view = IsViewAt (length history) (queries_of evaluator)
    (walked evaluator.options.two_way history) view

-- an evaluator of these queries with these options and workers, after which no entry came
pub record IsNew (queries : List CompiledValue) (options : OptionsValue) (workers : ℕ)
    (evaluator : EvaluatorValue) : Type 0 where
  pub queries_are : compiled_of evaluator ≡ queries
  pub options_are : evaluator.options ≡ options
  pub workers_are : evaluator.workers ≡ workers
  pub stands : StandsAfter evaluator []
