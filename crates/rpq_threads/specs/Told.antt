-- What the caller's objects were told of.
use Rattle.std.specs.Prelude.{◌≡◌, ◌≢◌, ℕ, ◌+◌, ◌≤◌, ◌⊎◌, List, [], ◌∷◌, ◌++◌, length, take}
use Rattle.std.specs.Prelude.{flat_map, Option, Some, None, slice_get}
use Rattle.std.specs.Io.KnownBytes.{append_known}
use Rattle.rpq_base.specs.declared.data.Entry.{Entry}
use Rattle.rpq_base.specs.declared.data.Event.{Event}
use Rattle.rpq_model.specs.Query.{Query}
use Rattle.history_model.specs.declared.line.Why.{Why}
use Rattle.history_model.specs.declared.line.Why.TheVariants.{Memory}
use Rattle.entry_steps.specs.Steps.{OptionsValue, StepValue, IsStep, AreSteps, events_of}
use Rattle.rpq_text.specs.Text.{block, blocks_from}
use Rattle.standing.specs.Objects.{ObjectValue}
use Rattle.standing.specs.Circles.{CircleValue}
use Rattle.standing.specs.Stood.{HaveStood}

-- the events of some entries, one entry after another
abbrev pub all_events : List (List Event) → List Event
all_events lists = flat_map (λ own. own) lists

-- the bytes begin the block of the entry behind the first ones, so many, and aren't all of it
pub record BeginsBlock (options : OptionsValue) (queries : List Query) (history : List Entry)
    (count : ℕ) (bytes : List ℕ) : Type 0 where
  pub entry : Entry
  pub step : StepValue
  pub more : List ℕ
  pub there : slice_get history count ≡ Some entry
  pub is_step : IsStep options queries (take count history)
      (take count history ++ entry ∷ []) step
  pub cut : block queries (count + 1) entry step ≡ bytes ++ more
  pub proper : more ≢ []

-- so many blocks of a text of the history were written whole, and of the next one a part or
-- nothing. Of the events of these blocks, and of no other, the objects were told: each that stayed
-- of all, unless memory ran out. Where nothing ended the run early these are all blocks
pub record TellsObjects (options : OptionsValue) (queries : List Query) (history : List Entry)
    (before now : Option (List ℕ)) (objects : List ObjectValue) (why : Option Why)
    (circle : CircleValue) : Type 0 where
  pub count : ℕ
  pub within : count ≤ length history
  pub steps : List StepValue
  pub are_steps : AreSteps options queries (take count history) steps
  pub rest : List ℕ
  pub part : (rest ≡ []) ⊎ BeginsBlock options queries history count rest
  pub written : now
      ≡ append_known before (blocks_from queries 1 (take count history) steps ++ rest)
  pub told : HaveStood objects (all_events (events_of steps)) (why ≢ Some Memory)
      circle.members circle.left
  pub all : why ≡ None → count ≡ length history
