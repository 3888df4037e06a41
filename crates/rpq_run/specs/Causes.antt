-- Why a run that began ended as it did.
use Rattle.std.specs.Prelude.{◌≡◌, ◌↔◌, true, List, Contains, None, IfSome}
use Rattle.rpq_io.specs.Counts.{CountsFault}
use Rattle.history_model.specs.declared.line.Why.TheVariants.{Write}
use Rattle.stream_tuples.specs.declared.ends.StreamEnd.TheVariants.{Closed}
use Rattle.rpq_text.specs.declared.ends.SinkName.{SinkName}
use Rattle.rpq_text.specs.declared.ends.SinkName.TheVariants.{Events, Replies, Save}
use Rattle.rpq_text.specs.ErrorLines.{run_lines}
use Rattle.rpq_text.specs.Statuses.{AreSomeSinks, IsStatusOf, memory_status}
use Rattle.rpq_run.specs.Outcome.{Meanings, Sinks, Outcome, ends_of}
use Rattle.rpq_run.specs.Shortage.{Shortage, is_short}
use Rattle.rpq_run.specs.Written.{TellsLines}

-- the causes: which sinks a write failed of, each told once; why streams are closed; the status and
-- the lines on the errors by the ends of the streams and the readers and the failed writes. The
-- status is that of out of memory where memory ran out for a stream, for a reader or for one of the
-- others, and nowhere else
pub record HasCauses {S K : Type 0} (means : Meanings S K) (failed : List SinkName)
    (short : Shortage) (sinks : Sinks K) (outcome : Outcome S K) : Type 0 where
  pub once : AreSomeSinks failed
  pub events_failed : CountsFault (Contains failed Events)
      (means.failures sinks.events_old) (means.failures sinks.events_new)
  pub replies_failed : IfSome outcome.replies (λ sink.
      CountsFault (Contains failed Replies) 0 (means.failures sink))
  pub no_replies : outcome.replies ≡ None → Contains failed Replies → ⊥
  pub save_failed : IfSome outcome.save (λ sink.
      CountsFault (Contains failed Save) 0 (means.failures sink))
  pub no_save : outcome.save ≡ None → Contains failed Save → ⊥
  pub closed : Contains outcome.ends (Closed Write) → Contains failed Events
  pub status_is : IsStatusOf outcome.ends (ends_of outcome.readers) failed outcome.status
  pub memory : (outcome.status ≡ memory_status)
      ↔ (is_short outcome.ends (ends_of outcome.readers) short ≡ true)
  pub told : TellsLines means.written means.failures
      (run_lines outcome.ends (ends_of outcome.readers) failed outcome.status)
      sinks.errors_old sinks.errors_new
