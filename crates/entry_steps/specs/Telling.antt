-- What is told of entries beside their events.
use Rattle.std.specs.Prelude.{◌≡◌, List, [], ◌∷◌, length, map, Option}
use Rattle.std.specs.Global.{Global}
use Rattle.std.specs.declared.vec.Vec.{Vec}
use Rattle.rpq_base.specs.declared.data.Entry.{Entry}
use Rattle.rpq_base.specs.declared.data.Event.{Event}
use Rattle.join_bindings.specs.State.{JoinsValue}
use Rattle.path_engine.specs.Engine.{EngineValue}
use Rattle.path_witness.specs.Marks.{MarksValue}
use Rattle.entry_steps.specs.Showing.{AreStepsOf}
use Rattle.entry_steps.specs.Steps.{OptionsValue, StepValue}
use Rattle.entry_steps.specs.declared.unnamed_steps.PathsAndJoins.{PathsAndJoins}

-- the steps of entries: the events of each, and what is told beside them in the same place
abbrev pub steps_with : List (List Event) → List PathsAndJoins → List StepValue
steps_with [] beside = []
steps_with (events ∷ lists) [] = []
steps_with (events ∷ lists) (own ∷ beside) =
    record { events = events; shown = own.shown.items; joined = own.joined.items }
    ∷ steps_with lists beside

-- the lists that some vectors have. No public contract cites what follows
abbrev pub lists_in : List (Vec Event Global) → List (List Event)
lists_in found = map (λ (own : Vec Event Global). own.items) found

-- nothing is told
pub record TellsNothing (beside : PathsAndJoins) : Type 0 where
  pub shown : beside.shown.items ≡ []
  pub joined : beside.joined.items ≡ []

-- the engine found these events of the entries that follow a history, and this is told beside them:
-- with it they are the steps, and the marks and the joins stand for all of the entries
pub record AreToldBeside (options : OptionsValue) (engine : EngineValue)
    (marks : Option MarksValue) (joins : Option JoinsValue) (before later : List Entry)
    (lists : List (List Event)) (beside : List PathsAndJoins) : Type 0 where
  pub many : length beside ≡ length lists
  pub are : AreStepsOf options engine marks joins before later (steps_with lists beside)
