-- What each entry of a history brings: its events, what shows those that gain a pair, and how the
-- bindings of joins change.
use Rattle.std.specs.Prelude.{◌≡◌, ℕ, Bool, true, false, List, [], ◌∷◌, ◌++◌, filter, map, All}
use Rattle.std.specs.Prelude.{◌<◌, Some, length, slice_get}
use Rattle.std.specs.List.{AllZip}
use Rattle.containment_laws.specs.Accepted.{IsAccepted}
use Rattle.join_bindings.specs.declared.event.JoinEvent.{JoinEvent}
use Rattle.join_bindings.specs.Histories.{AreJoinEventsFrom}
use Rattle.join_file.specs.Joins.{JoinValue}
use Rattle.join_bindings.specs.JoinText.{join_lines}
use Rattle.join_file.specs.Sound.{IsSound}
use Rattle.rpq_base.specs.declared.data.Entry.{Entry}
use Rattle.rpq_base.specs.declared.data.Event.{Event}
use Rattle.rpq_model.specs.Query.{Query}
use Rattle.two_way.specs.TwoWay.{walked, AreWalkedEvents}
use Rattle.path_witness.specs.Shows.{Shown, Shows}

-- how a run evaluates its queries, and what it tells: edges are taken backwards or not, paths are
-- told or not, and these are the joins whose bindings are told
pub record OptionsValue : Type 0 where
  pub two_way : Bool
  pub paths : Bool
  pub joins : List JoinValue

-- the events of an entry, the paths that are told of them, and the lines of the joins
pub record StepValue : Type 0 where
  pub events : List Event
  pub shown : List Shown
  pub joined : List ℕ

-- the events that gain a pair
abbrev pub additions : List Event → List Event
additions events = filter (λ event. event.added) events

-- what is shown is a path for the event's pair over the history
pub record IsShown (queries : List Query) (history : List Entry) (event : Event) (shown : Shown)
    : Type 0 where
  pub query : Query
  pub there : slice_get queries event.query ≡ Some query
  pub shows : Shows query history event.pair shown

-- each of these events has a path that shows it, in order
abbrev pub AreShown : List Query → List Entry → List Event → List Shown → Type 0
AreShown queries history events shown = AllZip (IsShown queries history) events shown

-- the lines of the bindings that joins lose and gain from one history to another
pub record AreJoinLines (queries : List Query) (joins : List JoinValue)
    (before after : List Entry) (lines : List ℕ) : Type 0 where
  pub changes : List JoinEvent
  pub are : AreJoinEventsFrom queries joins before after changes
  pub lines_are : lines ≡ join_lines joins changes

-- what the step from one history to another brings: the events; where paths are told, for each
-- addition a path that shows it over the second history, else none; and the lines of the
-- joins
pub record IsStep (options : OptionsValue) (queries : List Query) (before after : List Entry)
    (step : StepValue) : Type 0 where
  pub events : AreWalkedEvents options.two_way queries before after step.events
  pub shown : options.paths ≡ true →
      AreShown queries (walked options.two_way after) (additions step.events) step.shown
  pub none_shown : options.paths ≡ false → step.shown ≡ []
  pub joined : AreJoinLines queries options.joins (walked options.two_way before)
      (walked options.two_way after) step.joined

-- each of the entries that follow a history has its step, in order
abbrev pub AreStepsFrom : OptionsValue → List Query → List Entry → List Entry →
    List StepValue → Type 0
AreStepsFrom options queries before [] [] = Unit {0}
AreStepsFrom options queries before [] (step ∷ rest) = ⊥
AreStepsFrom options queries before (entry ∷ later) [] = ⊥
AreStepsFrom options queries before (entry ∷ later) (step ∷ rest) =
    IsStep options queries before (before ++ entry ∷ []) step
    × AreStepsFrom options queries (before ++ entry ∷ []) later rest

-- the steps of a history, one for each entry
abbrev pub AreSteps : OptionsValue → List Query → List Entry → List StepValue → Type 0
AreSteps options queries history steps = AreStepsFrom options queries [] history steps

-- the lines of the joins of each step
abbrev pub lines_of : List StepValue → List (List ℕ)
lines_of steps = map (λ step. step.joined) steps

-- the events of each step
abbrev pub events_of : List StepValue → List (List Event)
events_of steps = map (λ step. step.events) steps

-- queries that can be evaluated: accepted ones, whose windows move
pub record AreEvaluable (queries : List Query) : Type 0 where
  pub accepted : All IsAccepted queries
  pub move : All (λ query. 0 < query.window.slide) queries

-- the joins are over so many queries
abbrev pub HaveSoundJoins : ℕ → OptionsValue → Type 0
HaveSoundJoins queries options = All (IsSound queries) options.joins

-- such queries, and joins over them
pub record CanRun (options : OptionsValue) (queries : List Query) : Type 0 where
  pub evaluable : AreEvaluable queries
  pub sound : HaveSoundJoins (length queries) options
