-- What the check of a queries file does.
use Rattle.std.specs.Prelude.{◌≡◌, ℕ, Bool, List, [], Contains, Option, None}
use Rattle.rpq_text.specs.declared.ends.SinkName.{SinkName}
use Rattle.rpq_text.specs.declared.ends.SinkName.TheVariants.{Events}
use Rattle.rpq_text.specs.Verdicts.{AreVerdicts}
use Rattle.run_start.specs.Files.{IsQueriesFile, ForQueries}
use Rattle.rpq_run.specs.Causes.{HasCauses}
use Rattle.rpq_run.specs.Outcome.{Meanings, Sinks, Objects, Outcome}
use Rattle.rpq_run.specs.Shortage.{no_shortage}
use Rattle.rpq_run.specs.Written.{WritesWhere}

-- nothing was taken of a stream and nothing told of one, and nothing answered
pub record TakesNothing {S K : Type 0} (outcome : Outcome S K) : Type 0 where
  pub no_history : outcome.history ≡ []
  pub none_gone : outcome.base ≡ 0
  pub no_stream : outcome.ends ≡ []
  pub no_faults : outcome.faults ≡ []
  pub no_session : outcome.sessions ≡ []
  pub no_reader : outcome.readers ≡ []
  pub no_replies : outcome.replies ≡ None
  pub no_window : (outcome.from ≡ None) × (outcome.save ≡ None)

-- the objects were left as they were
pub record LeavesObjects (objects : Objects) : Type 0 where
  pub stayed : objects.after.members ≡ objects.before
  pub none_left : objects.after.left ≡ []

-- the check of this queries file: it has queries, nothing is taken and no source left, the verdicts
-- on the queries are written, or a prefix of them, and the objects are told nothing
pub record RunsCheck {S K : Type 0} (means : Meanings S K) (two_way : Bool)
    (file : Option (List ℕ)) (sinks : Sinks K) (objects : Objects) (outcome : Outcome S K)
    : Type 0 where
  pub understood : IsQueriesFile two_way file
  pub nothing : TakesNothing outcome
  pub no_source : outcome.sources ≡ []
  pub failed : List SinkName
  pub text : ForQueries two_way file (λ queries.
      WritesWhere (Contains failed Events) ⊥ (AreVerdicts queries)
      (means.written sinks.events_old) (means.written sinks.events_new))
  pub causes : HasCauses means failed no_shortage sinks outcome
  pub objects_kept : LeavesObjects objects
