-- What a run begins with, and why its words alone begin none.
use Rattle.std.specs.Prelude.{◌≡◌, ℕ, ◌≤◌, List, [], length, map, All, Option, Some}
use Rattle.std.specs.Prelude.{None, is_some, option_map, IfSome, Result, Ok, Err}
use Rattle.containment_laws.specs.Accepted.{IsAccepted}
use Rattle.rpq_io.specs.Files.{IsNewSink}
use Rattle.query_file.specs.Compiled.{CompiledValue, IsCompiled}
use Rattle.join_file.specs.Sound.{IsSound}
use Rattle.ask_text.specs.Ranges.{IsSession}
use Rattle.live_asks.specs.declared.reader.AskReader.{AskReader}
use Rattle.live_asks.specs.Readers.{IsNewAskReader}
use Rattle.rpq_words.specs.declared.settings.Directions.{Directions}
use Rattle.rpq_words.specs.declared.settings.RunMode.TheVariants.{Check, Generate, Streams}
use Rattle.rpq_words.specs.declared.settings.StreamSettings.{StreamSettings}
use Rattle.rpq_words.specs.declared.settings.Settings.{Settings}
use Rattle.rpq_words.specs.Views.{asks_of, cap_of, faults_of, from_of, joins_of, mode_of}
use Rattle.rpq_words.specs.Views.{replies_of, save_of, readers_of, two_way_of}
use Rattle.rpq_text.specs.Definitions.{definitions_of}
use Rattle.rpq_text.specs.Limits.{query_limit}
use Rattle.rpq_text.specs.declared.ends.StartFault.{StartFault}
use Rattle.rpq_text.specs.declared.ends.StartFault.TheVariants.{Words, Queries, Joins, Asks}
use Rattle.rpq_text.specs.declared.ends.StartFault.TheVariants.{Open, Read, Long, Memory}
use Rattle.run_start.specs.Files.{ForJoins, ForSessions, HasQueries, stream_contents}
use Rattle.run_start.specs.Readers.{AreNew, contents_of, is_behind}
use Rattle.run_start.specs.declared.ready.StreamsPlan.{StreamsPlan}
use Rattle.run_start.specs.declared.ready.Work.{Work}
use Rattle.run_start.specs.declared.ready.Work.TheVariants.{Check as Checks, Generate as Generates}
use Rattle.run_start.specs.declared.ready.Work.TheVariants.{Read as Reading}
use Rattle.run_start.specs.declared.sinks.OwnSinks.{OwnSinks}
use Rattle.run_start.specs.declared.refusal.Refusal.{Refusal}

-- why the words alone begin no run: they have no settings, or memory ran out
abbrev pub IsWordsCause : Option Settings → StartFault → Type 0
IsWordsCause words Words = words ≡ None
IsWordsCause words (Queries fault) = ⊥
IsWordsCause words (Joins fault) = ⊥
IsWordsCause words (Asks fault) = ⊥
IsWordsCause words (Open which) = ⊥
IsWordsCause words (Read which) = ⊥
IsWordsCause words (Long which) = ⊥
IsWordsCause words Memory = Unit {0}

-- the queries of a file: some, not too many, all accepted, and each with its own automaton and
-- verdict
pub record AreUnderstood (queries : List CompiledValue) : Type 0 where
  pub some : 1 ≤ length queries
  pub few : length queries ≤ query_limit
  pub accepted : All (λ each. IsAccepted each.def) queries
  pub compiled : All IsCompiled queries

-- the sinks that are written beside the events, each new, and there exactly where it is wanted:
-- that of the replies, and that of the saved window
pub record AreNewSinks {K : Type 0} (written : K → Option (List ℕ)) (failures : K → ℕ)
    (given : Settings) (sinks : OwnSinks K) : Type 0 where
  pub replies : is_some sinks.replies ≡ is_some (replies_of given)
  pub new_replies : IfSome sinks.replies (IsNewSink written failures)
  pub save : is_some sinks.save ≡ is_some (save_of given)
  pub new_save : IfSome sinks.save (IsNewSink written failures)

-- the sinks of the faulty lines of the streams, each new, and as many as files are named for them
pub record AreFaultSinks {K : Type 0} (written : K → Option (List ℕ)) (failures : K → ℕ)
    (given : Settings) (sinks : List K) : Type 0 where
  pub as_many : length sinks ≡ length (faults_of given)
  pub new : All (IsNewSink written failures) sinks

-- the readers beside a run, in order and not too many: each is new, and what it asks is what its
-- file holds
pub record AreAskReaders {S K : Type 0} (left : S → Option (List ℕ)) (faults : S → ℕ)
    (written : K → Option (List ℕ)) (failures : K → ℕ) (given : Settings)
    (holds : List ℕ → Option (List ℕ)) (readers : List (AskReader S K)) : Type 0 where
  pub few : length readers ≤ 64
  pub new : All (IsNewAskReader left faults written failures) readers
  pub contents : map (λ files. holds files.asks) (readers_of given)
      ≡ map (λ one. left one.reader.source) readers

-- what is read and answered in a run over streams: a new reader of each stream, in order, with the
-- saved window in front of it where one is named; the sinks of the faulty lines; the joins of the
-- joins file and the sessions of the asks file, not too many of each, and each about the queries;
-- the readers beside the run; and the other sinks
pub record IsReading {S K : Type 0} (left : S → Option (List ℕ)) (faults : S → ℕ)
    (written : K → Option (List ℕ)) (failures : K → ℕ) (given : Settings)
    (holds : List ℕ → Option (List ℕ)) (queries : List CompiledValue) (reading : StreamsPlan S K)
    : Type 0 where
  pub run : StreamSettings
  pub mode : mode_of given ≡ Streams run
  pub contents : stream_contents given holds ≡ contents_of left reading.readers
  pub behind : is_behind reading.readers ≡ is_some (from_of given)
  pub fresh : AreNew (cap_of given) left faults reading.readers
  pub fault_sinks : AreFaultSinks written failures given reading.faults.items
  pub joined : ForJoins given holds (definitions_of queries)
      (λ found. reading.joins.value.items ≡ found)
  pub few_joins : length reading.joins.value.items ≤ 32
  pub sound : All (IsSound (length queries)) reading.joins.value.items
  pub asked : ForSessions given holds (definitions_of queries)
      (λ asked. reading.sessions.items ≡ asked)
  pub few : length reading.sessions.items ≤ 64
  pub ranges : All (IsSession (length queries)) reading.sessions.items
  pub ask_readers : AreAskReaders left faults written failures given holds reading.ask_readers.items
  pub sinks : AreNewSinks written failures given reading.sinks

-- the work that the settings ask for: a check, the evaluation over so many generated tuples, or
-- that over streams, for which this holds of what is read
abbrev pub IsWork : {S K : Type 0} → Settings → (StreamsPlan S K → Type 0) → Work S K → Type 0
IsWork given P Checks = (directions : Directions) × (mode_of given ≡ Check directions)
IsWork given P (Generates directions count) = mode_of given ≡ Generate directions count
IsWork given P (Reading reads) = P reads

-- what a run begins with: the queries of its file, understood, and what is done with them
pub record IsReady {S K : Type 0} (left : S → Option (List ℕ)) (faults : S → ℕ)
    (written : K → Option (List ℕ)) (failures : K → ℕ) (given : Settings)
    (holds : List ℕ → Option (List ℕ)) (queries : List CompiledValue)
    (work : Work S K) : Type 0 where
  pub has : IfSome (holds given.queries)
      (λ bytes. HasQueries (two_way_of given) bytes (definitions_of queries))
  pub understood : AreUnderstood queries
  pub asked_for : IsWork given (IsReading left faults written failures given holds queries) work

-- all bytes of a file were taken, by reads of which none failed
pub record IsReadWhole {S : Type 0} (left : S → Option (List ℕ)) (faults : S → ℕ)
    (file : Option (List ℕ)) : Type 0 where
  pub source : S
  pub no_fault : faults source ≡ 0
  pub taken : left source ≡ option_map (λ bytes. []) file

-- the queries file was read whole, and so were the joins file and the asks file, where there are
-- such
pub record AreReadWhole {S : Type 0} (left : S → Option (List ℕ)) (faults : S → ℕ)
    (given : Settings) (holds : List ℕ → Option (List ℕ)) : Type 0 where
  pub queries : IsReadWhole left faults (holds given.queries)
  pub joins : IfSome (joins_of given) (λ name. IsReadWhole left faults (holds name))
  pub asks : IfSome (asks_of given) (λ name. IsReadWhole left faults (holds name))

-- why a run didn't begin, if it didn't
abbrev pub fault_of : {A S : Type 0} → Result A (Refusal S) → Option StartFault
fault_of (Ok answer) = None
fault_of (Err refusal) = Some refusal.fault
