-- How a run over streams ends behind its threads. Only private contracts cite this file.
use Rattle.std.specs.Prelude.{◌≡◌, ◌⊎◌, ◌||◌, ℕ, Bool, true, false, List, Option, is_some, Result}
use Rattle.std.specs.Prelude.{Ok, Some, None, drop}
use Rattle.std.specs.Global.{Vec}
use Rattle.kept_list.specs.KeptList.{KeptListValue}
use Rattle.rpq_base.specs.declared.data.Entry.{Entry}
use Rattle.history_model.specs.declared.line.Why.{Why}
use Rattle.stream_tuples.specs.declared.ends.StreamEnd.{StreamEnd}
use Rattle.rpq_text.specs.declared.ends.SinkName.{SinkName}
use Rattle.run_start.specs.declared.sinks.OwnSinks.{OwnSinks}
use Rattle.rpq_threads.specs.declared.task.RunOutcome.{RunOutcome as ThreadsOutcome}
use Rattle.rpq_run.specs.declared.fault.TextFault.{TextFault}
use Rattle.rpq_run.specs.declared.report.Report.{Report}
use Rattle.rpq_run.specs.declared.streams.WrittenTexts.{WrittenTexts}
use Rattle.rpq_run.specs.Failed.{failed_sinks, is_failed, is_memory, is_write, lacks_memory}
use Rattle.rpq_run.specs.Parts.{WritesIfThere}
use Rattle.rpq_run.specs.Shortage.{Shortage, has_memory_end}

-- whether no window is saved: the engine was shut, or memory ran out for a session, for a stream,
-- or for the replies
abbrev pub is_left_out : Option Why → Bool → List StreamEnd → Result (Unit {0}) TextFault → Bool
is_left_out why short_of_memory ends replied =
    is_some why || (short_of_memory || (has_memory_end ends || lacks_memory replied))

-- a text was to be written on a sink, if there is one, unless this says that it's left out: then
-- nothing was done
abbrev pub SavesIfThere : {Sink : Type 0} → (Sink → Option (List ℕ)) → (Sink → ℕ) → List ℕ
    → Bool → Option Sink → Option Sink → Result (Unit {0}) TextFault → Type 0
SavesIfThere written faults text left_out old new result =
    ((left_out ≡ false) × WritesIfThere written faults text old new result)
    ⊎ ((left_out ≡ true) × (result ≡ Ok tt) × (new ≡ old))

-- what memory ran out for, by why the engine was shut, by whether it ran out for a session, and by
-- the texts behind the events
abbrev pub shortage_of : Option Why → Bool → WrittenTexts → Shortage
shortage_of why short_of_memory written = record {
  engine = is_memory why;
  session = short_of_memory;
  replies = lacks_memory written.replied;
  save = lacks_memory written.saved;
}

-- whether it ran out for one of these
abbrev pub is_any : Shortage → Bool
is_any short = (short.engine || (short.session || short.replies)) || short.save

-- the sinks of which a write failed
abbrev pub failed_of : Option Why → WrittenTexts → List SinkName
failed_of why written =
    failed_sinks (is_write why) (is_failed written.replied) (is_failed written.saved)

-- the entries in memory of which the window of a history is saved: those that the engine kept in the
-- place of all, if it did
abbrev pub entries_left : Option (Vec Entry) → KeptListValue Entry → List Entry
entries_left (Some kept) history = kept.items
entries_left None history = drop history.base history.items

-- the report has what the threads gave, and the sinks
pub record KeepsParts {T O F S K V : Type 0} {W : V → Type 0} (threads : ThreadsOutcome T S K O)
    (own : OwnSinks K) (report : Report F S K V W) : Type 0 where
  pub history : report.history ≡ threads.history
  pub ends : report.streams ≡ threads.ends
  pub faults : report.faults ≡ threads.faults
  pub sessions : report.sessions ≡ threads.sessions
  pub readers : report.readers ≡ threads.readers
  pub replies : report.replies ≡ own.replies
  pub save : report.save ≡ own.save
