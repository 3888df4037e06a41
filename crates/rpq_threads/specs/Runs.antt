-- What the threads of a run are given, and what they give.
use Rattle.std.specs.Prelude.{◌≡◌, ℕ, ◌≤◌, ◌^◌, ◌⊎◌, true, false, List, [], ◌∷◌, length, map}
use Rattle.std.specs.Prelude.{All}
use Rattle.std.specs.Prelude.{Option, Some, None, Contains, IfSome}
use Rattle.std.specs.List.{AllZip}
use Rattle.std.specs.Global.{Vec}
use Rattle.rpq_base.specs.declared.data.Entry.{Entry}
use Rattle.rpq_base.specs.Plain.{IsPlain}
use Rattle.rpq_io.specs.Counts.{CountsFault}
use Rattle.rpq_io.specs.Files.{IsNewSink}
use Rattle.rpq_io.specs.Reader.{ReaderState}
use Rattle.rpq_model.specs.Query.{Query}
use Rattle.rpq_words.specs.Modes.{IsCap, IsWithin}
use Rattle.rpq_text.specs.Definitions.{definitions_of}
use Rattle.entry_steps.specs.Steps.{OptionsValue, HaveSoundJoins}
use Rattle.rpq_text.specs.Text.{IsText}
use Rattle.turn_lock.specs.Lines.{StartsWith}
use Rattle.history_model.specs.declared.line.Why.{Why}
use Rattle.history_model.specs.declared.line.Why.TheVariants.{Write, Memory}
use Rattle.stream_tuples.specs.declared.ends.StreamEnd.TheVariants.{Closed}
use Rattle.stream_tuples.specs.History.{IsNumberOf, AreStreamsOf, AreReportedOf}
use Rattle.stream_tuples.specs.History.{policy_of_sinks}
use Rattle.stream_tuples.specs.Progress.{IsNewReader}
use Rattle.ask_text.specs.declared.ask.Ask.{Ask}
use Rattle.ask_text.specs.Answered.{AnsweredValue}
use Rattle.ask_text.specs.Ranges.{IsSession, ended_at}
use Rattle.ask_text.specs.Reply.{IsReply}
use Rattle.live_asks.specs.declared.ends.ReaderEnd.{ReaderEnd}
use Rattle.live_asks.specs.declared.ends.ReaderEnd.TheVariants as reader_end
use Rattle.live_asks.specs.declared.reader.ReaderOutcome.{ReaderOutcome}
use Rattle.live_asks.specs.Answers.{LiveAnswer, answers_told, item_answered}
use Rattle.live_asks.specs.Ends.{AreItemsOfEnd, HasText}
use Rattle.live_asks.specs.Readers.{IsNewAskReader}
use Rattle.standing.specs.Objects.{ObjectValue}
use Rattle.standing.specs.Circles.{Parts, as_seen}
use Rattle.rpq_threads.specs.declared.task.Task.{Task}
use Rattle.rpq_threads.specs.declared.task.RunOutcome.{RunOutcome}
use Rattle.rpq_threads.specs.Understood.{AreUnderstood}
use Rattle.rpq_threads.specs.Written.{Grew, GrewByPrefix, GrewByProperPrefix}
use Rattle.rpq_threads.specs.Told.{TellsObjects}
use Rattle.rpq_threads.specs.Window.{IsWindowFor}

-- what is given to the threads of a run: queries, understood; new readers of from 1 to 64 streams;
-- a new sink for the faulty lines of each stream, or none at all; at most 64 sessions about the
-- queries, and at most 64 new readers of asks; how many entries the history may have; and at most
-- 32 joins over the queries. Where edges may be taken backwards, nobody asks, and no paths are told
pub record IsTask {S A K : Type 0} (left : S → Option (List ℕ)) (read_faults : S → ℕ)
    (asks_left : A → Option (List ℕ)) (asks_faults : A → ℕ) (written : K → Option (List ℕ))
    (failures : K → ℕ) (task : Task S A K) : Type 0 where
  pub understood : AreUnderstood task.queries.items
  pub streams : IsWithin 64 (length task.readers.items)
  pub fresh : All (IsNewReader task.limit left read_faults) task.readers.items
  pub faults : (task.faults.items ≡ []) ⊎ (length task.faults.items ≡ length task.readers.items)
  pub new_faults : All (IsNewSink written failures) task.faults.items
  pub few : length task.sessions.items ≤ 64
  pub sessions : All (IsSession (length task.queries.items)) task.sessions.items
  pub few_readers : length task.ask_readers.items ≤ 64
  pub new_readers : All (IsNewAskReader asks_left asks_faults written failures)
      task.ask_readers.items
  pub unasked : task.options.two_way ≡ true →
      (task.sessions.items ≡ []) × (task.ask_readers.items ≡ [])
  pub forwards : task.options.paths ≡ true → task.options.two_way ≡ false
  pub limit : IsCap task.limit
  pub few_joins : length task.options.joins ≤ 32
  pub sound : HaveSoundJoins (length task.queries.items) task.options

-- the text of the history was written, or a prefix of it: a proper one where a write failed
pub record WritesText {K : Type 0} (written : K → Option (List ℕ)) (failures : K → ℕ)
    (options : OptionsValue) (queries : List Query) (history : List Entry) (before after : K)
    (why : Option Why) : Type 0 where
  pub whole : why ≡ None → Grew (IsText options queries history) (written before) (written after)
  pub write : why ≡ Some Write →
      GrewByProperPrefix (IsText options queries history) (written before) (written after)
  pub memory : why ≡ Some Memory →
      GrewByPrefix (IsText options queries history) (written before) (written after)
  pub counted : CountsFault (why ≡ Some Write) (failures before) (failures after)

-- the answered ask is the reply over the entries up to its position, which isn't above the last one
-- that was published; where it was answered as ended, it has that one
pub record IsAnsweredOf (queries : List Query) (history : List Entry) (last : ℕ)
    (answered : AnsweredValue) : Type 0 where
  pub within : answered.position ≤ last
  pub text : IsReply queries history answered.position answered.ask
      (ended_at answered.ask answered.position) answered.text
  pub ended : ended_at answered.ask answered.position ≡ true → answered.position ≡ last

-- no position is below the one before it, and the first isn't below this one
abbrev pub Rises : ℕ → List AnsweredValue → Type 0
Rises from [] = Unit {0}
Rises from (one ∷ more) = (from ≤ one.position) × Rises one.position more

-- the answers of a session are those of its first asks, in order, at positions that never fall
pub record IsSessionOf (queries : List Query) (history : List Entry) (last : ℕ)
    (asked : List Ask) (answers : List AnsweredValue) : Type 0 where
  pub first_asks : StartsWith asked (map (λ one. one.ask) answers)
  pub each : All (IsAnsweredOf queries history last) answers
  pub rises : Rises 0 answers

-- each session has such answers, in its place
abbrev pub AreSessionsOf : List Query → List Entry → ℕ → List (List Ask) →
    List (List AnsweredValue) → Type 0
AreSessionsOf queries history last asked answers =
    AllZip (IsSessionOf queries history last) asked answers

-- the asks that were answered in each session, in order
abbrev pub asks_answered : List (List AnsweredValue) → List (List Ask)
asks_answered answers = map (λ own. map (λ one. one.ask) own) answers

-- a reader was answered over the history, of which so many entries were published last: there are
-- answers to the items of its file by its end, each told ask at a position that never falls and
-- isn't above that last one, which a wait has that was answered as ended; their text stands on its
-- replies; and a read or a write failed exactly where its end tells it
pub record IsLiveOf {A K : Type 0} (left : A → Option (List ℕ)) (faults : A → ℕ)
    (written : K → Option (List ℕ)) (failures : K → ℕ) (queries : List Query)
    (history : List Entry) (last : ℕ) (file : Option (List ℕ)) (one : ReaderOutcome A K)
    : Type 0 where
  pub answers : List LiveAnswer
  pub tied : IfSome file (λ text. AreItemsOfEnd queries text (left one.source)
      (map item_answered answers) one.end)
  pub each : All (IsAnsweredOf queries history last) (answers_told answers)
  pub rises : Rises 0 (answers_told answers)
  pub text : HasText (written one.replies) answers one.end
  pub read : CountsFault (one.end ≡ reader_end.Read) 0 (faults one.source)
  pub write : CountsFault (one.end ≡ reader_end.Write) 0 (failures one.replies)

-- what the files hold that the readers ask by
abbrev pub asks_files : {S A K : Type 0} → (A → Option (List ℕ)) → Task S A K →
    List (Option (List ℕ))
asks_files left task = map (λ one. left one.reader.source) task.ask_readers.items

-- how the readers ended
abbrev pub reader_ends : {S A K O : Type 0} → RunOutcome S A K O → List ReaderEnd
reader_ends outcome = map (λ one. one.end) outcome.readers.items

-- the answered asks of each session
abbrev pub session_answers : {S A K O : Type 0} → RunOutcome S A K O → List (List AnsweredValue)
session_answers outcome = map (λ (own : Vec AnsweredValue). own.items) outcome.sessions.items

-- the sessions and the readers were answered over the history, of which so many entries were
-- published last: all of them, unless the history was shut; each ask of a session was answered,
-- unless memory ran out for some session; and a reader whose history was shut tells why
pub record HasAnswered {S A K O : Type 0} (left : A → Option (List ℕ)) (faults : A → ℕ)
    (written : K → Option (List ℕ)) (failures : K → ℕ) (task : Task S A K)
    (outcome : RunOutcome S A K O) : Type 0 where
  pub last : ℕ
  pub within : last ≤ length outcome.history.items
  pub at_end : outcome.why ≡ None → last ≡ length outcome.history.items
  pub sessions : AreSessionsOf (definitions_of task.queries.items) outcome.history.items last
      task.sessions.items (session_answers outcome)
  pub all : outcome.short_of_memory ≡ false →
      asks_answered (session_answers outcome) ≡ task.sessions.items
  pub readers : AllZip (IsLiveOf left faults written failures
      (definitions_of task.queries.items) outcome.history.items last) (asks_files left task)
      outcome.readers.items
  pub closed : (why : Why) → Contains (reader_ends outcome) (reader_end.Closed why) →
      outcome.why ≡ Some why

-- what the files hold that the streams are read from
abbrev pub stream_files : {S A K : Type 0} → (S → Option (List ℕ)) → Task S A K →
    List (Option (List ℕ))
stream_files {S} left task = map (λ (reader : ReaderState S). left reader.source) task.readers.items

-- what the threads of a run give, over what they were given: one history, in which each stream's
-- tuples stand up to the stream's end, and nothing else does, and whose labels point forwards; the
-- faulty lines of the streams, each told on its own stream's sink, if there are sinks for them; the
-- history's text, written; the answers of the sessions and of the readers; and the objects, which
-- were told of its events. No entry of a limited history is gone, and what is left of another
-- serves as it does
pub record Holds {S A K O : Type 0} (left : S → Option (List ℕ)) (faults : S → ℕ)
    (asks_left : A → Option (List ℕ)) (asks_faults : A → ℕ) (written : K → Option (List ℕ))
    (failures : K → ℕ) (seen : O → ObjectValue) (task : Task S A K) (events_old events_new : K)
    (circle : Parts O) (outcome : RunOutcome S A K O) : Type 0 where
  pub streams : AreStreamsOf (policy_of_sinks task.faults.items) left faults task.limit
      (stream_files left task) outcome.sources.items outcome.history.items outcome.ends.items
  pub reported : AreReportedOf (policy_of_sinks task.faults.items) left written failures task.limit
      (stream_files left task) outcome.sources.items outcome.faults.items outcome.history.items
      outcome.ends.items
  pub closed : (why : Why) → Contains outcome.ends.items (Closed why) → outcome.why ≡ Some why
  pub numbers : All (λ (entry : Entry). IsNumberOf (length task.readers.items) entry.stream)
      outcome.history.items
  pub few : length outcome.history.items ≤ task.limit
  pub plain : All IsPlain outcome.history.items
  pub whole : task.limit ≤ 2 ^ 30 → outcome.history.base ≡ 0
  pub window : IsWindowFor (definitions_of task.queries.items) outcome.history.items
      outcome.history.base outcome.why outcome.window
  pub text : WritesText written failures task.options (definitions_of task.queries.items)
      outcome.history.items events_old events_new outcome.why
  pub answers : HasAnswered asks_left asks_faults written failures task outcome
  pub objects : TellsObjects task.options (definitions_of task.queries.items)
      outcome.history.items (written events_old) (written events_new)
      (as_seen seen circle).members outcome.why (as_seen seen outcome.circle)
