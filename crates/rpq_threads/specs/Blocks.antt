-- How the blocks of entries are written, and the objects told of their events. Only private
-- contracts cite this file.
use Rattle.std.specs.Prelude.{◌≡◌, ◌≢◌, ℕ, ◌+◌, ◌≤◌, ◌⊎◌, List, [], ◌++◌, length, take}
use Rattle.std.specs.Prelude.{Option, Some, None, slice_get}
use Rattle.std.specs.Io.KnownBytes.{append_known}
use Rattle.engine_loop.specs.Telling.{TellsOn}
use Rattle.entry_steps.specs.Steps.{StepValue, events_of}
use Rattle.history_model.specs.declared.line.Why.{Why}
use Rattle.history_model.specs.declared.line.Why.TheVariants.{Write, Memory}
use Rattle.rpq_base.specs.declared.data.Entry.{Entry}
use Rattle.rpq_io.specs.Counts.{CountsFault}
use Rattle.rpq_model.specs.Query.{Query}
use Rattle.rpq_text.specs.Text.{block, blocks_from}
use Rattle.standing.specs.Circles.{CircleValue, as_seen}
use Rattle.standing.specs.Objects.{ObjectValue}
use Rattle.rpq_threads.specs.Told.{all_events}
use Rattle.rpq_threads.specs.declared.blocks.Blocks.{Blocks}

-- the bytes begin the block of the entry behind the first of these entries, so many, and aren't all
-- of it; the first of them stands at this position
pub record BeginsNext (queries : List Query) (position : ℕ) (entries : List Entry)
    (steps : List StepValue) (count : ℕ) (bytes : List ℕ) : Type 0 where
  pub entry : Entry
  pub step : StepValue
  pub more : List ℕ
  pub there : slice_get entries count ≡ Some entry
  pub is_step : slice_get steps count ≡ Some step
  pub cut : block queries (position + count) entry step ≡ bytes ++ more
  pub proper : more ≢ []

-- of the blocks of these entries, the first of which stands at this position, so many were written
-- whole: all of them, unless something ended that early. Of the next one a part was written, where
-- a write failed, and else a part or nothing. Of the events of the blocks that were written whole,
-- and of no other, the objects were told: of all of them, unless memory ran out
pub record WritesBlocks (queries : List Query) (position : ℕ) (entries : List Entry)
    (steps : List StepValue) (why : Option Why) (before after : Option (List ℕ))
    (old new : CircleValue) : Type 0 where
  pub count : ℕ
  pub within : count ≤ length entries
  pub all : why ≡ None → count ≡ length entries
  pub rest : List ℕ
  pub part : ((why ≢ Some Write) × (rest ≡ []))
      ⊎ BeginsNext queries position entries steps count rest
  pub written : after ≡ append_known before
      (blocks_from queries position (take count entries) (take count steps) ++ rest)
  pub told : TellsOn (all_events (events_of (take count steps))) (why ≢ Some Memory) old new

-- behind the blocks that were written those of these entries were, on the same sink, and the faults
-- of the sink are counted
pub record WritesSteps {K O : Type 0} (written : K → Option (List ℕ)) (faults : K → ℕ)
    (seen : O → ObjectValue) (queries : List Query) (entries : List Entry)
    (steps : List StepValue) (why : Option Why) (old new : Blocks K O) : Type 0 where
  pub same : new.events.ghost_name ≡ old.events.ghost_name
  pub counted : why ≡ None → new.count ≡ old.count + length entries
  pub faults_are : CountsFault (why ≡ Some Write) (faults old.events.now) (faults new.events.now)
  pub writes : WritesBlocks queries (old.count + 1) entries steps why (written old.events.now)
      (written new.events.now) (as_seen seen old.circle) (as_seen seen new.circle)
