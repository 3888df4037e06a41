-- What a run that begins is to do. Only private contracts cite this file.
use Rattle.std.specs.Prelude.{◌≡◌, ℕ, Bool, false, List, Option, IfSome}
use Rattle.rpq_io.specs.Reader.{ReaderState}
use Rattle.query_file.specs.Compiled.{CompiledValue}
use Rattle.join_file.specs.Joins.{JoinValue}
use Rattle.ask_text.specs.declared.ask.Ask.{Ask}
use Rattle.live_asks.specs.declared.reader.AskReader.{AskReader}
use Rattle.generated_run.specs.declared.generation.Generation.{Generation}
use Rattle.rpq_words.specs.Modes.{IsWithin}
use Rattle.rpq_words.specs.declared.settings.Settings.{Settings}
use Rattle.rpq_words.specs.Views.{cap_of, from_of, is_endless, two_way_of}
use Rattle.rpq_text.specs.Definitions.{definitions_of}
use Rattle.saved_window.specs.Then.{TwoSources, count_of}
use Rattle.run_start.specs.Files.{ForJoins, ForSessions, HasQueries, stream_contents}
use Rattle.run_start.specs.Readers.{lefts_of}
use Rattle.run_start.specs.Ready.{AreFaultSinks, AreNewSinks}
use Rattle.run_start.specs.declared.sinks.OwnSinks.{OwnSinks}
use Rattle.rpq_threads.specs.declared.task.Task.{Task}
use Rattle.rpq_threads.specs.Runs.{asks_files}
use Rattle.rpq_run.specs.Beside.{asks_held}
use Rattle.rpq_run.specs.Options.{options_of}

-- the task of these settings, with these queries, joins, readers of streams, sinks of their faulty
-- lines, sessions, and readers of asks
pub record IsTaskOf {S A K : Type 0} (given : Settings) (queries : List CompiledValue)
    (joins : List JoinValue) (readers : List (ReaderState S)) (faults : List K)
    (sessions : List (List Ask)) (ask_readers : List (AskReader A K)) (task : Task S A K)
    : Type 0 where
  pub queries_are : task.queries.items ≡ queries
  pub readers_are : task.readers.items ≡ readers
  pub faults_are : task.faults.items ≡ faults
  pub sessions_are : task.sessions.items ≡ sessions
  pub ask_readers_are : task.ask_readers.items ≡ ask_readers
  pub options_are : task.options ≡ options_of given joins
  pub workers_are : task.workers ≡ given.workers
  pub limit_is : task.limit ≡ cap_of given

-- the generation of these settings, of so many tuples, with these queries, which may take edges
-- backwards or not
pub record IsGenerationOf (given : Settings) (queries : List CompiledValue) (two_way : Bool)
    (count : ℕ) (generation : Generation) : Type 0 where
  pub queries_are : generation.queries.items ≡ queries
  pub two_way_is : generation.two_way ≡ two_way
  pub workers_are : generation.workers ≡ given.workers
  pub limit_is : generation.limit ≡ cap_of given
  pub count_is : generation.count ≡ count

-- the task is that of the settings, where the files hold this: the queries, the joins and the
-- sessions of their files, readers of the streams, with a saved window in front where one is named,
-- sinks of their faulty lines where the settings name such, readers of the files of asks, and as
-- many entries as the history may have, which are few unless it goes on as long as the streams do;
-- and the sinks are new, and those that the settings name
pub record IsAsked {S K : Type 0} (left : S → Option (List ℕ)) (written : K → Option (List ℕ))
    (failures : K → ℕ) (given : Settings) (holds : List ℕ → Option (List ℕ)) (firsts : ℕ)
    (task : Task (TwoSources S) S K) (own : OwnSinks K) : Type 0 where
  pub has : IfSome (holds given.queries)
      (λ bytes. HasQueries (two_way_of given) bytes (definitions_of task.queries.items))
  pub contents : stream_contents given holds ≡ lefts_of left task.readers.items
  pub behind : firsts ≡ count_of (from_of given)
  pub faults : AreFaultSinks written failures given task.faults.items
  pub asked : ForSessions given holds (definitions_of task.queries.items)
      (λ asked. task.sessions.items ≡ asked)
  pub beside : asks_held given holds ≡ asks_files left task
  pub options : ForJoins given holds (definitions_of task.queries.items)
      (λ joins. task.options ≡ options_of given joins)
  pub limit : task.limit ≡ cap_of given
  pub capped : is_endless given ≡ false → IsWithin 2000000 (cap_of given)
  pub sinks : AreNewSinks written failures given own
