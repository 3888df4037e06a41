-- What the threads of a run work with, and what they give back. Only private contracts cite this
-- file.
use Rattle.std.specs.Prelude.{◌≡◌, ℕ, ◌+◌, ◌≤◌, Bool, List, [], ◌∷◌, ◌++◌, length, map, Option, All}
use Rattle.std.specs.Global.{Vec}
use Rattle.std.specs.List.{list_any}
use Rattle.std.specs.Vec.{vec_capacity}
use Rattle.rpq_base.specs.declared.data.Entry.{Entry}
use Rattle.rpq_model.specs.Query.{Query}
use Rattle.rpq_text.specs.Definitions.{definitions_of}
use Rattle.entry_steps.specs.Evaluator.{EvaluatorValue}
use Rattle.entry_steps.specs.Steps.{OptionsValue}
use Rattle.turn_lock.specs.Passes.{PassValue, newcomers}
use Rattle.history_model.specs.declared.line.Why.{Why}
use Rattle.history_model.specs.declared.line.Line.{Line}
use Rattle.history_model.specs.World.{Terms}
use Rattle.stream_history.specs.History.{HistoryValue, passes_for}
use Rattle.stream_tuples.specs.declared.ends.StreamEnd.{StreamEnd}
use Rattle.ask_text.specs.declared.ask.Ask.{Ask}
use Rattle.ask_text.specs.Answered.{AnsweredValue}
use Rattle.ask_text.specs.Ranges.{IsInRange}
use Rattle.live_asks.specs.declared.reader.AskReader.{AskReader}
use Rattle.live_asks.specs.declared.reader.ReaderOutcome.{ReaderOutcome}
use Rattle.live_asks.specs.Readers.{IsNewAskReader}
use Rattle.standing.specs.Objects.{ObjectValue}
use Rattle.standing.specs.Circles.{CircleValue, Parts, as_seen}
use Rattle.stream_threads.specs.declared.reader_work.ReaderWork.{ReaderWork}
use Rattle.stream_threads.specs.declared.session_work.SessionWork.{SessionWork}
use Rattle.stream_threads.specs.declared.stream_input.StreamInput.{StreamInput}
use Rattle.stream_threads.specs.declared.stream_worker.StreamResult.{StreamResult}
use Rattle.stream_threads.specs.Inputs.{IsNewInput, sinks_for}
use Rattle.stream_threads.specs.Started.{HaveStreamed, new_pass}
use Rattle.stream_threads.specs.Live.{AreNewReaderWorks, HaveServed}
use Rattle.stream_threads.specs.Readers.{HaveReplied}
use Rattle.rpq_threads.specs.declared.room.ThreadResults.{ThreadResults}
use Rattle.rpq_threads.specs.declared.room.ResultRoom.{ResultRoom}
use Rattle.rpq_threads.specs.declared.run.NewRun.{NewRun}
use Rattle.rpq_threads.specs.declared.serving.Job.{Job}
use Rattle.rpq_threads.specs.declared.serving.JobResult.{JobResult}
use Rattle.rpq_threads.specs.declared.task.Task.{Task}
use Rattle.rpq_threads.specs.Fed.{IsFed, IsAtStart, HasFed}

-- the asks of these sessions are about queries of the history
abbrev pub AreAbout : HistoryValue → List (List Ask) → Type 0
AreAbout history sessions = All (All (IsInRange (length history.terms.queries))) sessions

-- the lists are empty and have room for what the workers of so many streams, sessions and readers
-- give, and for the engine's pass
pub record HasRoomFor {S A K : Type 0} (streams sessions readers : ℕ)
    (gathered : ThreadResults S A K) : Type 0 where
  pub no_passes : gathered.passes.items ≡ []
  pub no_sources : gathered.sources.items ≡ []
  pub no_ends : gathered.ends.items ≡ []
  pub no_faults : gathered.faults.items ≡ []
  pub no_answers : gathered.answers.items ≡ []
  pub no_outcomes : gathered.readers.items ≡ []
  pub passes : 1 + streams + sessions + readers ≤ vec_capacity gathered.passes
  pub sources : streams ≤ vec_capacity gathered.sources
  pub ends : streams ≤ vec_capacity gathered.ends
  pub faults : streams ≤ vec_capacity gathered.faults
  pub answers : sessions ≤ vec_capacity gathered.answers
  pub outcomes : readers ≤ vec_capacity gathered.readers

-- the lists are empty and have room for what the workers of so many streams, sessions and readers
-- are started with and give
pub record HasRoom {S A K : Type 0} (streams sessions readers : ℕ) (room : ResultRoom S A K)
    : Type 0 where
  pub no_started : room.started.items ≡ []
  pub no_streamed : room.streamed.items ≡ []
  pub no_works : room.works.items ≡ []
  pub no_reader_works : room.reader_works.items ≡ []
  pub started : streams ≤ vec_capacity room.started
  pub streamed : streams ≤ vec_capacity room.streamed
  pub works : sessions ≤ vec_capacity room.works
  pub reader_works : readers ≤ vec_capacity room.reader_works
  pub gathered : HasRoomFor streams sessions readers room.gathered

-- what the threads of a run work with: the queries of the history, at most 64, all new passes, an
-- engine at its start, as many new readers of streams as the history has streams, each with its new
-- sink of faulty lines or all without one, as many sessions and new readers of asks as it has
-- readers, and room
pub record IsJob {S A K : Type 0} (left : S → Option (List ℕ)) (faults : S → ℕ)
    (asks_left : A → Option (List ℕ)) (asks_faults : A → ℕ) (written : K → Option (List ℕ))
    (failures : K → ℕ) (history : HistoryValue) (definitions : List Query) (job : Job S A K)
    : Type 0 where
  pub queries : definitions ≡ history.terms.queries
  pub few_queries : length definitions ≤ 64
  pub passes : job.passes.items ≡ newcomers history.turns.id history.terms history.turns.passes
  pub count : history.turns.passes ≡ passes_for history.terms history.readers
  pub fed : IsFed history job.evaluator (new_pass history 0)
  pub streams : length job.inputs.items ≡ history.terms.streams
  pub fresh : All (IsNewInput history.terms.cap left faults written failures) job.inputs.items
  pub readers : length job.sessions.items + length job.ask_readers.items ≡ history.readers
  pub few : length job.sessions.items ≤ 64
  pub few_readers : length job.ask_readers.items ≤ 64
  pub asks : AreAbout history job.sessions.items
  pub new_readers : All (IsNewAskReader asks_left asks_faults written failures)
      job.ask_readers.items
  pub room : HasRoom history.terms.streams (length job.sessions.items)
      (length job.ask_readers.items) job.room

-- what the threads of a run are given: what they work with, and objects of which none has left
pub record IsWork {S A K O : Type 0} (left : S → Option (List ℕ)) (faults : S → ℕ)
    (asks_left : A → Option (List ℕ)) (asks_faults : A → ℕ) (written : K → Option (List ℕ))
    (failures : K → ℕ) (history : HistoryValue) (definitions : List Query) (job : Job S A K)
    (circle : Parts O) : Type 0 where
  pub job_is : IsJob left faults asks_left asks_faults written failures history definitions job
  pub fresh : circle.left ≡ []

-- readers that are still to be served, queries of which there aren't too many for them, and an
-- engine at its start
pub record AreReady {A K : Type 0} (asks_left : A → Option (List ℕ)) (asks_faults : A → ℕ)
    (written : K → Option (List ℕ)) (failures : K → ℕ) (history : HistoryValue)
    (definitions : List Query) (asking : List (ReaderWork A K)) (evaluator : EvaluatorValue)
    (pass : PassValue Line Terms) (circle : CircleValue) : Type 0 where
  pub new : AreNewReaderWorks asks_left asks_faults written failures history asking
  pub few : length definitions ≤ 64
  pub start : IsAtStart history definitions evaluator pass circle

-- what was made for a run: a history of its queries and streams, which takes so many entries, and
-- what its threads work with, among this the readers, the sinks of faulty lines and the sessions
-- that were given
pub record IsBegun {S A K : Type 0} (left : S → Option (List ℕ)) (faults : S → ℕ)
    (asks_left : A → Option (List ℕ)) (asks_faults : A → ℕ) (written : K → Option (List ℕ))
    (failures : K → ℕ) (task : Task S A K) (begun : NewRun S A K) : Type 0 where
  pub terms : begun.history.terms ≡ record {
    queries = definitions_of task.queries.items;
    streams = length task.readers.items;
    cap = task.limit;
  }
  pub job : IsJob left faults asks_left asks_faults written failures begun.history
      begun.definitions.value.items begun.job
  pub options : begun.job.evaluator.options ≡ task.options
  pub readers : map (λ (input : StreamInput S K). input.reader) begun.job.inputs.items
      ≡ task.readers.items
  pub faults_are : map (λ (input : StreamInput S K). input.faults) begun.job.inputs.items
      ≡ sinks_for (length task.readers.items) task.faults.items
  pub sessions : begun.job.sessions.items ≡ task.sessions.items
  pub ask_readers : begun.job.ask_readers.items ≡ task.ask_readers.items

-- what a run's threads were given, among this how the queries are evaluated and told, the sink of
-- the events before it, and the objects
pub record Given (S A K : Type 0) : Type 0 where
  pub options : OptionsValue
  pub inputs : List (StreamInput S K)
  pub sessions : List (List Ask)
  pub ask_readers : List (AskReader A K)
  pub events : K
  pub circle : CircleValue

-- what they gave, the sink after it, and the objects
pub record Gave (S A K : Type 0) : Type 0 where
  pub sources : List S
  pub ends : List StreamEnd
  pub faults : List (Option K)
  pub answers : List (List AnsweredValue)
  pub readers : List (ReaderOutcome A K)
  pub why : Option Why
  pub window : Option (Vec Entry)
  pub short_of_memory : Bool
  pub events : K
  pub circle : CircleValue

-- what a job gives to the threads
abbrev pub given_by : {S A K : Type 0} → Job S A K → K → CircleValue → Given S A K
given_by job events circle = record {
  options = job.evaluator.options;
  inputs = job.inputs.items;
  sessions = job.sessions.items;
  ask_readers = job.ask_readers.items;
  events = events;
  circle = circle;
}

-- what they gave back
abbrev pub gave_by : {S A K O : Type 0} → (O → ObjectValue) → JobResult S A K O → Gave S A K
gave_by seen served = record {
  sources = served.gathered.sources.items;
  ends = served.gathered.ends.items;
  faults = served.gathered.faults.items;
  answers = map (λ (own : Vec AnsweredValue). own.items) served.gathered.answers.items;
  readers = served.gathered.readers.items;
  why = served.why;
  window = served.window;
  short_of_memory = served.short_of_memory;
  events = served.events.now;
  circle = as_seen seen served.circle;
}

-- what the worker of a reader gives beside its pass
abbrev pub outcome_of : {A K : Type 0} → ReaderWork A K → ReaderOutcome A K
outcome_of work = record {
  end = work.end;
  source = work.reader.source;
  replies = work.replies;
}

-- the workers of the streams, of the sessions and of the readers and the engine have ended; all
-- passes are back
pub record IsServed {S A K : Type 0} (left : S → Option (List ℕ)) (faults : S → ℕ)
    (asks_left : A → Option (List ℕ)) (asks_faults : A → ℕ) (written : K → Option (List ℕ))
    (failures : K → ℕ) (history : HistoryValue) (given : Given S A K) (gave : Gave S A K)
    (passes : List (PassValue Line Terms)) : Type 0 where
  pub streamed : List (StreamResult S K)
  pub replied : List SessionWork
  pub served : List (ReaderWork A K)
  pub engine : PassValue Line Terms
  pub did : HaveStreamed left faults written failures history 1 given.inputs streamed
  pub answered_all : HaveReplied history (1 + history.terms.streams) given.sessions replied
  pub served_all : HaveServed asks_left asks_faults written failures history
      (1 + history.terms.streams + length given.sessions)
      (map (λ one. one.reader.source) given.ask_readers) served
  pub fed : HasFed written failures given.options history given.events gave.events given.circle
      gave.circle engine gave.why gave.window
  pub passes_are : passes ≡ engine
      ∷ (map (λ d. d.pass) streamed ++ (map (λ r. r.pass) replied ++ map (λ r. r.pass) served))
  pub sources_are : gave.sources ≡ map (λ d. d.source) streamed
  pub ends_are : gave.ends ≡ map (λ d. d.end) streamed
  pub faults_are : gave.faults ≡ map (λ d. d.faults) streamed
  pub answers_are : gave.answers ≡ map (λ r. r.answers.items) replied
  pub readers_are : gave.readers ≡ map outcome_of served
  pub memory_is : gave.short_of_memory ≡ list_any (λ r. r.memory) replied
