-- What a run leaves, and how contracts are told of sources, sinks and files.
use Rattle.std.specs.Prelude.{ℕ, List, Option, map}
use Rattle.std.specs.Global.{Vec}
use Rattle.rpq_base.specs.declared.data.Entry.{Entry}
use Rattle.stream_tuples.specs.declared.ends.StreamEnd.{StreamEnd}
use Rattle.ask_text.specs.Answered.{AnsweredValue}
use Rattle.live_asks.specs.declared.ends.ReaderEnd.{ReaderEnd}
use Rattle.live_asks.specs.declared.reader.ReaderOutcome.{ReaderOutcome}
use Rattle.standing.specs.Objects.{ObjectValue}
use Rattle.standing.specs.Circles.{CircleValue}
use Rattle.rpq_run.specs.declared.report.Report.{Report}

-- the bytes that a source has left, and how often a read of it failed; the bytes that were written
-- on a sink, and how often a write on it failed
pub record Meanings (S K : Type 0) : Type 0 where
  pub left : S → Option (List ℕ)
  pub faults : S → ℕ
  pub written : K → Option (List ℕ)
  pub failures : K → ℕ

-- the sinks that a run was handed, before and after it
pub record Sinks (K : Type 0) : Type 0 where
  pub events_old : K
  pub events_new : K
  pub errors_old : K
  pub errors_new : K

-- the objects that a run was handed, and as it leaves them: those that stayed, and those that left
pub record Objects : Type 0 where
  pub before : List ObjectValue
  pub after : CircleValue

-- how often the opening of each name failed, to read and to write, before and after a run
pub record Openings : Type 0 where
  pub unread_old : List ℕ → ℕ
  pub unread_new : List ℕ → ℕ
  pub unmade_old : List ℕ → ℕ
  pub unmade_new : List ℕ → ℕ

-- what a run answers but why it didn't begin; so many of the first entries of the history have left
-- the memory
pub record Outcome (S K : Type 0) : Type 0 where
  pub status : ℕ
  pub history : List Entry
  pub base : ℕ
  pub ends : List StreamEnd
  pub sources : List S
  pub faults : List (Option K)
  pub from : Option S
  pub sessions : List (List AnsweredValue)
  pub readers : List (ReaderOutcome S K)
  pub replies : Option K
  pub save : Option K

-- how readers ended, in order
abbrev pub ends_of : {S K : Type 0} → List (ReaderOutcome S K) → List ReaderEnd
ends_of readers = map (λ one. one.end) readers

-- these parts, in these records
abbrev pub meanings : {S K : Type 0} → (S → Option (List ℕ)) → (S → ℕ) → (K → Option (List ℕ))
    → (K → ℕ) → Meanings S K
meanings left faults written failures =
    record { left = left; faults = faults; written = written; failures = failures }

abbrev pub sinks : {K : Type 0} → K → K → K → K → Sinks K
sinks events_old events_new errors_old errors_new = record {
  events_old = events_old;
  events_new = events_new;
  errors_old = errors_old;
  errors_new = errors_new;
}

-- the objects that were handed over, those that stayed and those that left, each as it is seen
abbrev pub objects : {B : Type 0} → (B → ObjectValue) → List B → List B → List B → Objects
objects seen before stayed left = record {
  before = map seen before;
  after = record { members = map seen stayed; left = map seen left };
}

abbrev pub openings : (List ℕ → ℕ) → (List ℕ → ℕ) → (List ℕ → ℕ) → (List ℕ → ℕ) → Openings
openings unread_old unread_new unmade_old unmade_new = record {
  unread_old = unread_old;
  unread_new = unread_new;
  unmade_old = unmade_old;
  unmade_new = unmade_new;
}

abbrev pub outcome : {F S K V : Type 0} {W : V → Type 0} → Report F S K V W → Outcome S K
outcome report = record {
  status = report.status;
  history = report.history.items;
  base = report.history.base;
  ends = report.streams.items;
  sources = report.sources.items;
  faults = report.faults.items;
  from = report.from;
  sessions = map (λ (own : Vec AnsweredValue). own.items) report.sessions.items;
  readers = report.readers.items;
  replies = report.replies;
  save = report.save;
}
