-- What a journal keeps of its lines.
use Rattle.std.specs.Prelude.{◌≡◌, ℕ, ◌↔◌, ◌⊎◌, List, Option, Some, Contains}
use Rattle.rpq_base.specs.declared.data.Entry.{Entry}
use Rattle.answer_view.specs.View.{ViewValue}
use Rattle.history_model.specs.declared.line.Why.{Why}
use Rattle.history_model.specs.declared.line.Call.{Call}
use Rattle.history_model.specs.declared.line.Line.{Line}
use Rattle.history_model.specs.Lines.{entries, IsStream, HasEnded, IsShutFor}
use Rattle.history_model.specs.Joined.{lines_of}
use Rattle.history_model.specs.World.{Terms}
use Rattle.stream_history.specs.Journal.{JournalValue, IsSound}

-- the journal whose lines are told by these calls and entries, of which so many first are gone
abbrev pub journal_of : Terms → List Call → List Entry → ℕ → ViewValue → JournalValue
journal_of terms calls told base view =
    record { terms = terms; lines = lines_of calls told; base = base; view = view }

-- the numbers are those of so many streams
abbrev pub AreStreams : ℕ → List ℕ → Type 0
AreStreams streams numbers =
    (stream : ℕ) → Contains numbers stream ↔ IsStream streams stream

-- the open streams are exactly those of the streams that haven't ended
pub record AreOpen (streams : ℕ) (lines : List Line) (open_streams : List ℕ) : Type 0 where
  pub going : (stream : ℕ) → Contains open_streams stream →
      IsStream streams stream × (HasEnded lines stream → ⊥)
  pub others : (stream : ℕ) → IsStream streams stream →
      HasEnded lines stream ⊎ Contains open_streams stream

-- the reason is that of the shut, and none where there is no shut
abbrev pub IsReason : List Line → Option Why → Type 0
IsReason lines reason = (why : Why) → (reason ≡ Some why) ↔ IsShutFor lines why

-- the calls have as many appends as there are entries, of the same streams; the open streams and
-- the reason are those of the lines
pub record IsKept (journal : JournalValue) (calls : List Call) (told : List Entry)
    (open_streams : List ℕ) (reason : Option Why) : Type 0 where
  pub sound : IsSound journal
  pub lines : journal.lines ≡ lines_of calls told
  pub appended : entries journal.lines ≡ told
  pub going : AreOpen journal.terms.streams journal.lines open_streams
  pub shut : IsReason journal.lines reason
