-- What the run over generated tuples does.
use Rattle.std.specs.Prelude.{◌≡◌, ◌≢◌, ℕ, ◌≤◌, ◌<◌, ◌⊎◌, ◌↔◌, Bool, List, [], ◌∷◌}
use Rattle.std.specs.Prelude.{Option, None, Contains}
use Rattle.rpq_model.specs.Query.{Query}
use Rattle.stream_tuples.specs.declared.ends.StreamEnd.{StreamEnd}
use Rattle.stream_tuples.specs.declared.ends.StreamEnd.TheVariants.{Whole, Full, Memory}
use Rattle.tuple_generator.specs.Generator.{generated_history}
use Rattle.generated_run.specs.Generates.{AreTold, said_by}
use Rattle.generated_run.specs.Summary.{IsSummary}
use Rattle.rpq_text.specs.declared.ends.SinkName.{SinkName}
use Rattle.rpq_text.specs.declared.ends.SinkName.TheVariants.{Events}
use Rattle.rpq_text.specs.Statuses.{memory_status}
use Rattle.rpq_threads.specs.Written.{Grew, GrewByProperPrefix}
use Rattle.run_start.specs.Files.{IsQueriesFile, ForQueries}
use Rattle.rpq_run.specs.Causes.{HasCauses}
use Rattle.rpq_run.specs.Outcome.{Meanings, Sinks, Objects, Outcome}
use Rattle.rpq_run.specs.Shortage.{no_shortage}

-- the history has the first generated tuples, in order, as stream 1: all that are wanted, or as
-- many as it may have, unless memory ran out. None of them has left the memory. The stream's end
-- says which
pub record HoldsGenerated {S K : Type 0} (limit count : ℕ) (outcome : Outcome S K)
    : Type 0 where
  pub made : ℕ
  pub within : (made ≤ count) × (made ≤ limit)
  pub history : outcome.history ≡ generated_history made
  pub none_gone : outcome.base ≡ 0
  pub end : StreamEnd
  pub one_stream : outcome.ends ≡ end ∷ []
  pub one_of : (end ≡ Whole) ⊎ ((end ≡ Full) ⊎ (end ≡ Memory))
  pub whole : end ≡ Whole → made ≡ count
  pub full : end ≡ Full → (made ≡ limit) × (made < count)
  pub memory : (end ≡ Memory) ↔ (outcome.status ≡ memory_status)

-- the summary of the run was written; less than the whole of it where a write failed, and nothing
-- where memory ran out
pub record WritesSummary {S K : Type 0} (means : Meanings S K) (two_way : Bool)
    (queries : List Query) (failed : List SinkName) (sinks : Sinks K) (objects : Objects)
    (outcome : Outcome S K) : Type 0 where
  pub whole : (Contains failed Events → ⊥) → outcome.status ≢ memory_status
      → Grew (IsSummary two_way queries outcome.history (said_by objects.after))
      (means.written sinks.events_old) (means.written sinks.events_new)
  pub part : Contains failed Events
      → GrewByProperPrefix (IsSummary two_way queries outcome.history (said_by objects.after))
      (means.written sinks.events_old) (means.written sinks.events_new)
  pub nothing : outcome.status ≡ memory_status
      → means.written sinks.events_new ≡ means.written sinks.events_old

-- the run over so many generated tuples, of which the history takes as many as its limit lets it,
-- with the queries of this file: no stream is opened and no faulty line told, nobody asks, and no
-- reply is written and no window saved; the objects were told of the events of the history, of all
-- of them unless memory ran out
pub record RunsGenerated {S K : Type 0} (means : Meanings S K) (two_way : Bool) (limit count : ℕ)
    (file : Option (List ℕ)) (sinks : Sinks K) (objects : Objects)
    (outcome : Outcome S K) : Type 0 where
  pub understood : IsQueriesFile two_way file
  pub no_source : outcome.sources ≡ []
  pub no_faults : outcome.faults ≡ []
  pub no_session : outcome.sessions ≡ []
  pub no_reader : outcome.readers ≡ []
  pub no_replies : outcome.replies ≡ None
  pub no_window : (outcome.from ≡ None) × (outcome.save ≡ None)
  pub failed : List SinkName
  pub history : HoldsGenerated limit count outcome
  pub summary : ForQueries two_way file (λ queries.
      WritesSummary means two_way queries failed sinks objects outcome)
  pub told : ForQueries two_way file (λ queries.
      AreTold two_way queries outcome.history
      objects.before (outcome.status ≢ memory_status) objects.after)
  pub causes : HasCauses means failed no_shortage sinks outcome
