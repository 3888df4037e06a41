-- What a run does that begins, and one that doesn't.
use Rattle.std.specs.Prelude.{◌≡◌, ℕ, List, Option}
use Rattle.rpq_words.specs.declared.settings.RunMode.{RunMode}
use Rattle.rpq_words.specs.declared.settings.RunMode.TheVariants.{Check, Generate, Streams}
use Rattle.rpq_words.specs.declared.settings.Settings.{Settings}
use Rattle.rpq_words.specs.Views.{cap_of, is_both_ways, mode_of}
use Rattle.rpq_text.specs.declared.ends.StartFault.{StartFault}
use Rattle.rpq_text.specs.ErrorLines.{start_line}
use Rattle.rpq_text.specs.Statuses.{status_of_start}
use Rattle.run_start.specs.Start.{IsCause, AreSourcesOf, file_held}
use Rattle.rpq_run.specs.Outcome.{Meanings, Sinks, Objects, Outcome}
use Rattle.rpq_run.specs.RunsCheck.{RunsCheck, LeavesObjects, TakesNothing}
use Rattle.rpq_run.specs.RunsGenerated.{RunsGenerated}
use Rattle.rpq_run.specs.RunsStreams.{RunsStreams}
use Rattle.rpq_run.specs.Written.{TellsLines}

-- what is asked for in each mode: the check, the run over so many generated tuples, or the run over
-- streams
abbrev pub RunsIn : {S K : Type 0} → RunMode → Meanings S K → Settings → (List ℕ → Option (List ℕ))
    → Sinks K → Objects → Outcome S K → Type 0
RunsIn (Check directions) means given holds sinks objects outcome =
    RunsCheck means (is_both_ways directions) (holds given.queries) sinks objects outcome
RunsIn (Generate directions count) means given holds sinks objects outcome =
    RunsGenerated means (is_both_ways directions) (cap_of given) count (holds given.queries)
    sinks objects outcome
RunsIn (Streams run) means given holds sinks objects outcome =
    RunsStreams means given holds sinks objects outcome

-- what the settings ask for
abbrev pub Runs : {S K : Type 0} → Meanings S K → Settings → (List ℕ → Option (List ℕ))
    → Sinks K → Objects → Outcome S K → Type 0
Runs means given holds sinks objects outcome =
    RunsIn (mode_of given) means given holds sinks objects outcome

-- a run that doesn't begin for this cause; its status and its line on the errors are those of the
-- cause, it took nothing and left the sink of the events and the objects as they were, and it
-- leaves at most the source of a file that is read whole
pub record Refuses {S K : Type 0} (means : Meanings S K) (words : Option Settings)
    (holds : List ℕ → Option (List ℕ)) (sinks : Sinks K) (objects : Objects)
    (outcome : Outcome S K) (fault : StartFault) : Type 0 where
  pub cause : IsCause words holds fault
  pub status_is : outcome.status ≡ status_of_start fault
  pub nothing : TakesNothing outcome
  pub sources_of : AreSourcesOf means.left means.faults (file_held words holds) fault
      outcome.sources
  pub untouched : sinks.events_new ≡ sinks.events_old
  pub objects_kept : LeavesObjects objects
  pub told : TellsLines means.written means.failures (start_line fault)
      sinks.errors_old sinks.errors_new
