-- What the definitions are meant to say, as laws.
use Rattle.std.specs.Prelude.{◌≡◌, ℕ, ◌<◌, ◌↔◌, Bool, false, List, [], ◌∷◌, ◌++◌, length, map}
use Rattle.std.specs.Prelude.{take, Some, slice_get, All}
use Rattle.std.specs.List.{flat_map}
use Rattle.join_bindings.specs.declared.event.JoinEvent.{JoinEvent}
use Rattle.join_bindings.specs.Histories.{AreJoinEventsOn, IsBindingOver, IsJoinHeld}
use Rattle.join_file.specs.Joins.{JoinValue}
use Rattle.join_bindings.specs.JoinText.{join_lines}
use Rattle.join_file.specs.Sound.{IsSound}
use Rattle.rpq_base.specs.declared.data.Entry.{Entry}
use Rattle.rpq_base.specs.declared.data.Pair.{Pair}
use Rattle.rpq_base.specs.declared.data.Event.{Event}
use Rattle.rpq_base.specs.Plain.{IsPlain}
use Rattle.alike_histories.specs.Alike.{AllSeeAlike}
use Rattle.rpq_model.specs.Events.{IsHeld}
use Rattle.rpq_model.specs.Answers.{IsAnswer}
use Rattle.rpq_model.specs.Query.{Query, path_query}
use Rattle.two_way.specs.TwoWay.{walked, AreAllWalkedEvents}
use Rattle.entry_steps.specs.Steps.{OptionsValue, StepValue, IsStep, AreSteps, CanRun, events_of}
use Rattle.entry_steps.specs.Steps.{lines_of}
use Rattle.entry_steps.specs.Evaluator.{EvaluatorValue, KeepsSetup, StandsInFor, queries_of}

-- each entry that follows a history brings a step, where queries and joins can be evaluated
abbrev pub EveryEntryHasAStep : Type 0
EveryEntryHasAStep =
    (options : OptionsValue) (queries : List Query) → CanRun options queries →
    (history : List Entry) (entry : Entry) →
    (step : StepValue) × IsStep options queries history (history ++ entry ∷ []) step

-- where paths are told and where they aren't, the steps of a history have the same events, and they
-- are those that its entries bring
pub record StepsHaveTheEvents : Type 0 where
  pub are : (options : OptionsValue) (queries : List Query) (history : List Entry)
      (steps : List StepValue) → AreSteps options queries history steps →
      AreAllWalkedEvents options.two_way queries history (events_of steps)
  pub same : (options others : OptionsValue) (queries : List Query) (history : List Entry)
      (first second : List StepValue) → options.two_way ≡ others.two_way →
      AreSteps options queries history first → AreSteps others queries history second →
      events_of first ≡ events_of second

-- going through the events of the first entries leaves exactly each query's answers over
-- as many entries, and over their inverses where edges may be taken backwards
abbrev pub FrontsHoldAnswers : Type 0
FrontsHoldAnswers =
    (two_way : Bool) (queries : List Query) (place : ℕ) (query : Query) (history : List Entry)
    (events : List (List Event)) → slice_get queries place ≡ Some query →
    AreAllWalkedEvents two_way queries history events → (count : ℕ) →
    (pair : Pair) → IsHeld place (flat_map (λ list. list) (take count events)) pair
    ↔ IsAnswer (path_query query) (walked two_way (take count history)) pair

-- where edges are taken forwards alone, the steps of a history have the lines of the changes of
-- bindings that each entry brings
abbrev pub StepsHaveJoinEvents : Type 0
StepsHaveJoinEvents =
    (options : OptionsValue) (queries : List Query) (history : List Entry)
    (steps : List StepValue) → options.two_way ≡ false → AreSteps options queries history steps →
    (changes : List (List JoinEvent))
    × AreJoinEventsOn queries options.joins [] history changes
    × (lines_of steps ≡ map (join_lines options.joins) changes)

-- going through the changes of the first entries leaves exactly the bindings of each join over the
-- answers over as many entries
abbrev pub FrontsHoldBindings : Type 0
FrontsHoldBindings =
    (queries : List Query) (joins : List JoinValue) (number : ℕ) (join : JoinValue)
    (history : List Entry) (changes : List (List JoinEvent)) →
    slice_get joins number ≡ Some join → IsSound (length queries) join → 0 < join.variables →
    AreJoinEventsOn queries joins [] history changes → (count : ℕ) (names : List (List ℕ)) →
    IsJoinHeld number (flat_map (λ list. list) (take count changes)) names
    ↔ IsBindingOver queries (take count history) join names

-- what stands in for a history: the history itself; what stands in for entries that do; with any
-- later entries, those that stood in before them; whatever evaluator of the same setup is asked; and
-- of entries whose labels point forwards, those that the queries see alike with the history
pub record EntriesStandIn : Type 0 where
  pub itself : (evaluator : EvaluatorValue) (history : List Entry) →
      StandsInFor evaluator history history
  pub joined : (evaluator : EvaluatorValue) (kept between history : List Entry) →
      StandsInFor evaluator kept between → StandsInFor evaluator between history →
      StandsInFor evaluator kept history
  pub with_more : (evaluator : EvaluatorValue) (kept history later : List Entry) →
      StandsInFor evaluator kept history → StandsInFor evaluator (kept ++ later) (history ++ later)
  pub by_setup : (old new : EvaluatorValue) (kept history : List Entry) → KeepsSetup old new →
      StandsInFor old kept history → StandsInFor new kept history
  pub plain : (evaluator : EvaluatorValue) (kept history : List Entry) →
      All IsPlain kept → All IsPlain history → AllSeeAlike (queries_of evaluator) kept history →
      StandsInFor evaluator kept history
