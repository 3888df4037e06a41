-- The readers that ask beside a run over streams.
use Rattle.std.specs.Prelude.{◌≡◌, ℕ, ◌⊎◌, List, length, map, All, Contains, Option}
use Rattle.std.specs.List.{AllZip}
use Rattle.rpq_base.specs.declared.data.Entry.{Entry}
use Rattle.rpq_io.specs.Counts.{CountsFault}
use Rattle.rpq_model.specs.Query.{Query}
use Rattle.rpq_words.specs.declared.reader_names.ReaderFiles.{ReaderFiles}
use Rattle.rpq_words.specs.declared.settings.Settings.{Settings}
use Rattle.rpq_words.specs.Views.{readers_of, two_way_of}
use Rattle.history_model.specs.declared.line.Why.TheVariants.{Write as WriteOfAll}
use Rattle.history_model.specs.declared.line.Why.TheVariants.{Memory as MemoryOfAll}
use Rattle.live_asks.specs.declared.ends.ReaderEnd.{ReaderEnd}
use Rattle.live_asks.specs.declared.ends.ReaderEnd.TheVariants.{Whole, Left, LongText, Read, Write}
use Rattle.live_asks.specs.declared.ends.ReaderEnd.TheVariants.{Closed, Memory}
use Rattle.live_asks.specs.declared.reader.ReaderOutcome.{ReaderOutcome}
use Rattle.live_asks.specs.Answers.{LiveAnswer, answers_told, item_answered}
use Rattle.live_asks.specs.Ends.{HasText}
use Rattle.live_asks.specs.Items.{asked_items}
use Rattle.live_asks.specs.Progress.{end_of}
use Rattle.rpq_text.specs.declared.ends.SinkName.{SinkName}
use Rattle.rpq_text.specs.declared.ends.SinkName.TheVariants.{Events}
use Rattle.rpq_text.specs.Statuses.{memory_status}
use Rattle.run_start.specs.Files.{ForQueries}
use Rattle.rpq_threads.specs.Runs.{IsAnsweredOf, IsLiveOf, Rises}
use Rattle.rpq_run.specs.Outcome.{Meanings, Outcome}

-- the most readers of a run
abbrev pub reader_limit : ℕ
reader_limit = 64

-- what the files of the readers' asks hold, in order, as far as it is told
abbrev pub asks_held : Settings → (List ℕ → Option (List ℕ)) → List (Option (List ℕ))
asks_held given holds = map (λ (files : ReaderFiles). holds files.asks) (readers_of given)

-- a read of the asks of a reader, or a write of its replies, failed exactly where it ended so, as
-- the counts show
pub record CountsReader {S K : Type 0} (means : Meanings S K) (one : ReaderOutcome S K)
    : Type 0 where
  pub read : CountsFault (one.end ≡ Read) 0 (means.faults one.source)
  pub write : CountsFault (one.end ≡ Write) 0 (means.failures one.replies)

-- the readers: each was answered over the history, in its place, by what its own file asks, and
-- the text of its answers stands on its own sink. No position is above the last one that was
-- published, which the sessions have too. A reader that found the history shut did so for a failed
-- write of the events, or because memory ran out; and the status tells where memory ran out
pub record AnswersReaders {S K : Type 0} (means : Meanings S K) (given : Settings)
    (holds : List ℕ → Option (List ℕ)) (failed : List SinkName) (last : ℕ) (outcome : Outcome S K)
    : Type 0 where
  pub as_many : length outcome.readers ≡ length (readers_of given)
  pub each : ForQueries (two_way_of given) (holds given.queries) (λ queries.
      AllZip (IsLiveOf means.left means.faults means.written means.failures queries
      outcome.history last) (asks_held given holds) outcome.readers)
  pub counted : All (CountsReader means) outcome.readers
  pub closed : All (λ one. one.end ≡ Closed WriteOfAll → Contains failed Events) outcome.readers
  pub memory : All (λ one. (one.end ≡ Closed MemoryOfAll) ⊎ (one.end ≡ Memory)
      → outcome.status ≡ memory_status) outcome.readers

-- a reader came to the end of its asks, or to the line that ends it
abbrev pub IsServedEnd : ReaderEnd → Type 0
IsServedEnd Whole = Unit {0}
IsServedEnd (Left line) = Unit {0}
IsServedEnd LongText = ⊥
IsServedEnd Read = ⊥
IsServedEnd Write = ⊥
IsServedEnd (Closed why) = ⊥
IsServedEnd Memory = ⊥

-- a reader was served: all that its file asks was answered, in order, up to the line that ends it,
-- if there is one; each ask by the answers at a position of the history that never falls, and a
-- wait that was answered as ended by those at the end of it; and the text of this stands on its
-- sink
pub record IsServed {S K : Type 0} (means : Meanings S K) (queries : List Query)
    (history : List Entry) (text : List ℕ) (one : ReaderOutcome S K) : Type 0 where
  pub ended : IsServedEnd one.end
  pub end_is : one.end ≡ end_of (asked_items queries text).end
  pub answers : List LiveAnswer
  pub all : map item_answered answers ≡ (asked_items queries text).items
  pub each : All (IsAnsweredOf queries history (length history)) (answers_told answers)
  pub rises : Rises 0 (answers_told answers)
  pub written : HasText (means.written one.replies) answers one.end
