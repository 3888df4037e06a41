-- How the steps of entries are counted. Only private contracts cite this file.
use Rattle.std.specs.Prelude.{◌≡◌, [], List, length, Option, None}
use Rattle.engine_loop.specs.Telling.{TellsOn}
use Rattle.entry_steps.specs.Steps.{StepValue, events_of}
use Rattle.history_model.specs.declared.line.Why.{Why}
use Rattle.rpq_base.specs.declared.data.Entry.{Entry}
use Rattle.standing.specs.Circles.{as_seen}
use Rattle.standing.specs.Objects.{ObjectValue}
use Rattle.generated_run.specs.declared.counts.EventCounts.{EventCounts}
use Rattle.generated_run.specs.Summary.{all_of}
use Rattle.generated_run.specs.Totals.{no_totals, HasCounted}

-- the objects were told of the events of these steps, and they were counted; where memory ran out,
-- the objects were told of a front of them
pub record CountsSteps {O : Type 0} (seen : O → ObjectValue) (entries : List Entry)
    (steps : List StepValue) (why : Option Why) (old new : EventCounts O) : Type 0 where
  pub told : TellsOn (all_of (events_of steps)) (why ≡ None) (as_seen seen old.circle)
      (as_seen seen new.circle)
  pub counted : why ≡ None →
      HasCounted (length entries) (all_of (events_of steps)) old.totals new.totals

-- nothing was counted, and no object has left
pub record AreNew {O : Type 0} (counts : EventCounts O) : Type 0 where
  pub none : counts.totals ≡ no_totals
  pub fresh : counts.circle.left ≡ []
