-- Some command lines with what they give.
use Rattle.std.specs.Prelude.{◌≡◌, ℕ, zero, suc, List, [], ◌∷◌, codes, Some, None}
use Rattle.clap.specs.Walk.{Text}
use Rattle.rpq_words.specs.declared.reader_names.ReaderFiles.{ReaderFiles}
use Rattle.rpq_words.specs.declared.settings.Extent.TheVariants.{Capped, Endless}
use Rattle.rpq_words.specs.declared.settings.RunMode.{RunMode}
use Rattle.rpq_words.specs.declared.settings.RunMode.TheVariants.{Check, Generate, Streams}
use Rattle.rpq_words.specs.declared.settings.Directions.TheVariants.{Forwards, BothWays}
use Rattle.rpq_words.specs.declared.settings.StreamSettings.{StreamSettings}
use Rattle.rpq_words.specs.declared.settings.StreamSettings.TheVariants.{Forwards as ForwardRun}
use Rattle.rpq_words.specs.declared.settings.StreamSettings.TheVariants.{BothWays as TwoWayRun}
use Rattle.rpq_words.specs.declared.settings.ForwardSettings.{ForwardSettings}
use Rattle.rpq_words.specs.declared.settings.TwoWaySettings.{TwoWaySettings}
use Rattle.rpq_words.specs.declared.settings.Input.TheVariants.{Fresh, Resumed}
use Rattle.rpq_words.specs.declared.settings.OutputKind.TheVariants.{Pairs, Paths, Bindings}
use Rattle.rpq_words.specs.declared.settings.Settings.{Settings}
use Rattle.rpq_words.specs.Settings.{settings}

-- these are the settings, where nothing else is said
abbrev pub plain : RunMode → Settings
plain mode = record { queries = codes "q"; workers = 4; extent = Capped None mode }

-- a run over these streams, where nothing else is said
abbrev pub over : List Text → ForwardSettings
over streams = record {
  input = Fresh streams;
  shown = Pairs;
  asked = None;
  readers = [];
  save = None;
  faults = [];
}

-- a run over these streams in which edges may be taken backwards, where nothing else is said
abbrev pub over_both_ways : List Text → TwoWaySettings
over_both_ways streams = record { streams = streams; faults = [] }

-- a run over the stream `t` behind what the file `f` has, with asks, replies, and a file to save to
abbrev pub resumed : ForwardSettings
resumed = record {
  input = Resumed (codes "f") (codes "t");
  shown = Pairs;
  asked = Some (record { asks = codes "a"; replies = codes "r" });
  readers = [];
  save = Some (codes "s");
  faults = [];
}

abbrev pub forwards : ForwardSettings → Settings
forwards run = plain (Streams (ForwardRun run))

-- the same as long as the streams go on
abbrev pub endless : StreamSettings → Settings
endless run = record { queries = codes "q"; workers = 4; extent = Endless run }

-- A file to save to, and one to begin with; both, with asks and replies; and a file to save to with
-- two streams. Refused: a file to begin with, and no stream or two; the same file for both; and one
-- of them with a check or with generated tuples.
pub record SavedExamples : Type 0 where
  pub saved : settings (codes "rpq" ∷ codes "--save" ∷ codes "s" ∷ codes "q" ∷ codes "t" ∷ [])
      ≡ Some (forwards (record (over (codes "t" ∷ [])) { save = Some (codes "s") }))
  pub begun : settings (codes "rpq" ∷ codes "--from" ∷ codes "f" ∷ codes "q" ∷ codes "t" ∷ [])
      ≡ Some (forwards (record (over []) { input = Resumed (codes "f") (codes "t") }))
  pub all_files : settings (codes "rpq" ∷ codes "--save=s" ∷ codes "--from=f" ∷ codes "--asks=a"
      ∷ codes "--replies=r" ∷ codes "q" ∷ codes "t" ∷ [])
      ≡ Some (forwards resumed)
  pub of_two : settings (codes "rpq" ∷ codes "--save=s" ∷ codes "q" ∷ codes "t" ∷ codes "u" ∷ [])
      ≡ Some (forwards (record (over (codes "t" ∷ codes "u" ∷ [])) { save = Some (codes "s") }))
  pub no_stream : settings (codes "rpq" ∷ codes "--from" ∷ codes "f" ∷ codes "q" ∷ []) ≡ None
  pub two_streams : settings (codes "rpq" ∷ codes "--from" ∷ codes "f" ∷ codes "q" ∷ codes "t"
      ∷ codes "u" ∷ []) ≡ None
  pub same_file : settings (codes "rpq" ∷ codes "--save" ∷ codes "f" ∷ codes "--from" ∷ codes "f"
      ∷ codes "q" ∷ codes "t" ∷ []) ≡ None
  pub checked : settings (codes "rpq" ∷ codes "--check" ∷ codes "--save" ∷ codes "f" ∷ codes "q"
      ∷ []) ≡ None
  pub made : settings (codes "rpq" ∷ codes "--generate" ∷ codes "3" ∷ codes "--from" ∷ codes "f"
      ∷ codes "q" ∷ []) ≡ None

-- Edges taken backwards in a run over a stream, in a check, and over generated tuples. Refused:
-- with asks and replies; with a file to save to; with one to begin with; and the flag given twice.
pub record TwoWayExamples : Type 0 where
  pub over_stream : settings (codes "rpq" ∷ codes "--two-way" ∷ codes "q" ∷ codes "t" ∷ [])
      ≡ Some (plain (Streams (TwoWayRun (over_both_ways (codes "t" ∷ [])))))
  pub checked : settings (codes "rpq" ∷ codes "--check" ∷ codes "--two-way" ∷ codes "q" ∷ [])
      ≡ Some (plain (Check BothWays))
  pub made : settings (codes "rpq" ∷ codes "--generate=5" ∷ codes "--two-way" ∷ codes "q" ∷ [])
      ≡ Some (plain (Generate BothWays 5))
  pub asked : settings (codes "rpq" ∷ codes "--two-way" ∷ codes "--asks=a" ∷ codes "--replies=r"
      ∷ codes "q" ∷ codes "t" ∷ []) ≡ None
  pub saved : settings (codes "rpq" ∷ codes "--two-way" ∷ codes "--save=s" ∷ codes "q" ∷ codes "t"
      ∷ []) ≡ None
  pub begun : settings (codes "rpq" ∷ codes "--two-way" ∷ codes "--from=f" ∷ codes "q" ∷ codes "t"
      ∷ []) ≡ None
  pub twice : settings (codes "rpq" ∷ codes "--two-way" ∷ codes "--two-way" ∷ codes "q"
      ∷ codes "t" ∷ []) ≡ None

-- Paths in a run over a stream. Refused: in a check; over generated tuples; and with edges taken
-- backwards.
pub record PathsExamples : Type 0 where
  pub over_stream : settings (codes "rpq" ∷ codes "--paths" ∷ codes "q" ∷ codes "t" ∷ [])
      ≡ Some (forwards (record (over (codes "t" ∷ [])) { shown = Paths }))
  pub checked : settings (codes "rpq" ∷ codes "--check" ∷ codes "--paths" ∷ codes "q" ∷ []) ≡ None
  pub made : settings (codes "rpq" ∷ codes "--generate=5" ∷ codes "--paths" ∷ codes "q" ∷ [])
      ≡ None
  pub backwards : settings (codes "rpq" ∷ codes "--two-way" ∷ codes "--paths" ∷ codes "q"
      ∷ codes "t" ∷ []) ≡ None

-- Joins in a run over a stream; and with asks and replies, a file to save to, and one to begin
-- with. Refused: in a check; over generated tuples; with edges taken backwards; with paths; and the
-- option given twice.
pub record JoinsExamples : Type 0 where
  pub over_stream : settings (codes "rpq" ∷ codes "--joins" ∷ codes "j" ∷ codes "q" ∷ codes "t"
      ∷ [])
      ≡ Some (forwards (record (over (codes "t" ∷ [])) { shown = Bindings (codes "j") }))
  pub all_files : settings (codes "rpq" ∷ codes "--joins=j" ∷ codes "--asks=a"
      ∷ codes "--replies=r" ∷ codes "--save=s" ∷ codes "--from=f" ∷ codes "q" ∷ codes "t" ∷ [])
      ≡ Some (forwards (record resumed { shown = Bindings (codes "j") }))
  pub checked : settings (codes "rpq" ∷ codes "--check" ∷ codes "--joins=j" ∷ codes "q" ∷ [])
      ≡ None
  pub made : settings (codes "rpq" ∷ codes "--generate=5" ∷ codes "--joins=j" ∷ codes "q" ∷ [])
      ≡ None
  pub backwards : settings (codes "rpq" ∷ codes "--two-way" ∷ codes "--joins=j" ∷ codes "q"
      ∷ codes "t" ∷ []) ≡ None
  pub with_paths : settings (codes "rpq" ∷ codes "--paths" ∷ codes "--joins=j" ∷ codes "q"
      ∷ codes "t" ∷ []) ≡ None
  pub twice : settings (codes "rpq" ∷ codes "--joins=j" ∷ codes "--joins=k" ∷ codes "q"
      ∷ codes "t" ∷ []) ≡ None

-- A run that goes on as long as its stream does; and one with asks and replies, a file to save to,
-- and one to begin with; and one in which edges are taken backwards. Refused: with a number of tuples
-- that the history holds, be it the usual one; in a check; over generated tuples; with no stream; and
-- the flag given twice.
pub record EndlessExamples : Type 0 where
  pub over_stream : settings (codes "rpq" ∷ codes "--endless" ∷ codes "q" ∷ codes "t" ∷ [])
      ≡ Some (endless (ForwardRun (over (codes "t" ∷ []))))
  pub all_files : settings (codes "rpq" ∷ codes "--save=s" ∷ codes "--from=f" ∷ codes "--asks=a"
      ∷ codes "--replies=r" ∷ codes "q" ∷ codes "t" ∷ codes "--endless" ∷ [])
      ≡ Some (endless (ForwardRun resumed))
  pub backwards : settings (codes "rpq" ∷ codes "--two-way" ∷ codes "--endless" ∷ codes "q"
      ∷ codes "t" ∷ []) ≡ Some (endless (TwoWayRun (over_both_ways (codes "t" ∷ []))))
  pub with_history : settings (codes "rpq" ∷ codes "--endless" ∷ codes "--history=1000000"
      ∷ codes "q" ∷ codes "t" ∷ []) ≡ None
  pub checked : settings (codes "rpq" ∷ codes "--check" ∷ codes "--endless" ∷ codes "q" ∷ [])
      ≡ None
  pub made : settings (codes "rpq" ∷ codes "--generate=5" ∷ codes "--endless" ∷ codes "q" ∷ [])
      ≡ None
  pub no_stream : settings (codes "rpq" ∷ codes "--endless" ∷ codes "q" ∷ []) ≡ None
  pub twice : settings (codes "rpq" ∷ codes "--endless" ∷ codes "--endless" ∷ codes "q"
      ∷ codes "t" ∷ []) ≡ None

-- a reader of these files
abbrev pub reader_of : Text → Text → ReaderFiles
reader_of asks replies = record { asks = asks; replies = replies }

-- a reader with the files `a` and `r` and one with `b` and `w`, beside a run over the stream `t`
abbrev pub two_readers : ForwardSettings
two_readers = record (over (codes "t" ∷ [])) {
  readers = reader_of (codes "a") (codes "r") ∷ reader_of (codes "b") (codes "w") ∷ [];
}

-- these words behind so many readers
abbrev pub with_readers : ℕ → List Text → List Text
with_readers zero words = words
with_readers (suc more) words = codes "--reader" ∷ codes "a" ∷ codes "r" ∷ with_readers more words

-- Two readers beside a run; between the other words, in a run that goes on as long as its stream
-- does; and one beside asks, replies, a file to save to, and one to begin with. Refused: a 65th; one
-- with one word alone; one whose first word stands behind a `=`, or whose second begins with `-`;
-- one that takes the word of the queries file; one in a check, over generated tuples, and where
-- edges are taken backwards.
pub record ReaderExamples : Type 0 where
  pub two : settings (codes "rpq" ∷ codes "--reader" ∷ codes "a" ∷ codes "r" ∷ codes "--reader"
      ∷ codes "b" ∷ codes "w" ∷ codes "q" ∷ codes "t" ∷ []) ≡ Some (forwards two_readers)
  pub behind : settings (codes "rpq" ∷ codes "q" ∷ codes "--reader" ∷ codes "a" ∷ codes "r"
      ∷ codes "t" ∷ codes "--endless" ∷ codes "--reader" ∷ codes "b" ∷ codes "w" ∷ [])
      ≡ Some (endless (ForwardRun two_readers))
  pub all_files : settings (codes "rpq" ∷ codes "--save=s" ∷ codes "--from=f" ∷ codes "--asks=a"
      ∷ codes "--replies=r" ∷ codes "--reader" ∷ codes "b" ∷ codes "w" ∷ codes "q" ∷ codes "t"
      ∷ [])
      ≡ Some (forwards (record resumed { readers = reader_of (codes "b") (codes "w") ∷ [] }))
  pub many : settings (codes "rpq" ∷ with_readers 65 (codes "q" ∷ codes "t" ∷ [])) ≡ None
  pub alone : settings (codes "rpq" ∷ codes "q" ∷ codes "t" ∷ codes "--reader" ∷ codes "a" ∷ [])
      ≡ None
  pub attached : settings (codes "rpq" ∷ codes "--reader=a" ∷ codes "r" ∷ codes "q" ∷ codes "t"
      ∷ []) ≡ None
  pub hyphen : settings (codes "rpq" ∷ codes "--reader" ∷ codes "a" ∷ codes "-r" ∷ codes "q"
      ∷ codes "t" ∷ []) ≡ None
  pub no_queries : settings (codes "rpq" ∷ codes "--reader" ∷ codes "a" ∷ codes "q" ∷ codes "t"
      ∷ []) ≡ None
  pub checked : settings (codes "rpq" ∷ codes "--check" ∷ codes "--reader" ∷ codes "a" ∷ codes "r"
      ∷ codes "q" ∷ []) ≡ None
  pub made : settings (codes "rpq" ∷ codes "--generate=5" ∷ codes "--reader" ∷ codes "a"
      ∷ codes "r" ∷ codes "q" ∷ []) ≡ None
  pub backwards : settings (codes "rpq" ∷ codes "--two-way" ∷ codes "--reader" ∷ codes "a"
      ∷ codes "r" ∷ codes "q" ∷ codes "t" ∷ []) ≡ None

-- these words behind a file for faulty lines of each of so many streams
abbrev pub with_faults : ℕ → List Text → List Text
with_faults zero words = words
with_faults (suc more) words = codes "--faults=e" ∷ with_faults more words

-- A file of faulty lines for one stream; one for each of two, also behind these, in a run that goes
-- on as long as its streams do, and in one in which edges are taken backwards; and one beside asks,
-- replies, a file to save to, and one to begin with. Refused: one for two streams; two for one; one
-- for no stream; one in a check and over generated tuples; the option with no word; and one whose
-- word begins with `-`.
pub record FaultFileExamples : Type 0 where
  pub one : settings (codes "rpq" ∷ codes "--faults" ∷ codes "e" ∷ codes "q" ∷ codes "t" ∷ [])
      ≡ Some (forwards (record (over (codes "t" ∷ [])) { faults = codes "e" ∷ [] }))
  pub two : settings (codes "rpq" ∷ codes "--faults" ∷ codes "e" ∷ codes "q" ∷ codes "t"
      ∷ codes "--faults=g" ∷ codes "u" ∷ [])
      ≡ Some (forwards (record (over (codes "t" ∷ codes "u" ∷ [])) {
        faults = codes "e" ∷ codes "g" ∷ [];
      }))
  pub without_end : settings (codes "rpq" ∷ codes "--endless" ∷ codes "q" ∷ codes "t" ∷ codes "u"
      ∷ codes "--faults" ∷ codes "e" ∷ codes "--faults" ∷ codes "g" ∷ [])
      ≡ Some (endless (ForwardRun (record (over (codes "t" ∷ codes "u" ∷ [])) {
        faults = codes "e" ∷ codes "g" ∷ [];
      })))
  pub backwards : settings (codes "rpq" ∷ codes "--two-way" ∷ codes "--faults=e"
      ∷ codes "--faults=g" ∷ codes "q" ∷ codes "t" ∷ codes "u" ∷ [])
      ≡ Some (plain (Streams (TwoWayRun (record {
        streams = codes "t" ∷ codes "u" ∷ [];
        faults = codes "e" ∷ codes "g" ∷ [];
      }))))
  pub all_files : settings (codes "rpq" ∷ codes "--save=s" ∷ codes "--from=f" ∷ codes "--asks=a"
      ∷ codes "--replies=r" ∷ codes "--faults=e" ∷ codes "q" ∷ codes "t" ∷ [])
      ≡ Some (forwards (record resumed { faults = codes "e" ∷ [] }))
  pub too_few : settings (codes "rpq" ∷ with_faults 1 (codes "q" ∷ codes "t" ∷ codes "u" ∷ []))
      ≡ None
  pub too_many : settings (codes "rpq" ∷ with_faults 2 (codes "q" ∷ codes "t" ∷ [])) ≡ None
  pub few_backwards : settings (codes "rpq" ∷ codes "--two-way"
      ∷ with_faults 1 (codes "q" ∷ codes "t" ∷ codes "u" ∷ [])) ≡ None
  pub no_stream : settings (codes "rpq" ∷ with_faults 1 (codes "q" ∷ [])) ≡ None
  pub checked : settings (codes "rpq" ∷ codes "--check" ∷ with_faults 1 (codes "q" ∷ [])) ≡ None
  pub made : settings (codes "rpq" ∷ codes "--generate=5" ∷ with_faults 1 (codes "q" ∷ [])) ≡ None
  pub alone : settings (codes "rpq" ∷ codes "q" ∷ codes "t" ∷ codes "--faults" ∷ []) ≡ None
  pub hyphen : settings (codes "rpq" ∷ codes "--faults" ∷ codes "-e" ∷ codes "q" ∷ codes "t" ∷ [])
      ≡ None

-- The defaults. An option between streams, and zeros in front of its number. Values that begin with
-- `-` or are empty behind `=`, and words behind `--`. A check; generated tuples. The greatest
-- numbers. Refused: too many tuples to generate; no stream; no queries; a number above its range,
-- below it, or with a sign; a flag given twice; asks without replies; a check with generated
-- tuples, or with a stream; a value that begins with `-`; a name cut short; and `--help`.
-- And the examples of files to save to and to begin with, of edges taken backwards, of paths, of
-- joins, of runs as long as their streams, of readers beside a run, and of files of faulty lines.
pub record SettingsExamples : Type 0 where
  pub defaults : settings (codes "rpq" ∷ codes "q" ∷ codes "s" ∷ [])
      ≡ Some (forwards (over (codes "s" ∷ [])))
  pub between : settings (codes "rpq" ∷ codes "q" ∷ codes "s" ∷ codes "--workers" ∷ codes "0008"
      ∷ codes "t" ∷ []) ≡ Some (record (forwards (over (codes "s" ∷ codes "t" ∷ []))) { workers = 8 })
  pub dashes : settings (codes "rpq" ∷ codes "--asks=-a" ∷ codes "--replies=" ∷ codes "--"
      ∷ codes "q" ∷ codes "--check" ∷ [])
      ≡ Some (forwards (record (over (codes "--check" ∷ [])) {
        asked = Some (record { asks = codes "-a"; replies = [] });
      }))
  pub checked : settings (codes "rpq" ∷ codes "--check" ∷ codes "q" ∷ [])
      ≡ Some (plain (Check Forwards))
  pub made : settings (codes "rpq" ∷ codes "--generate" ∷ codes "5" ∷ codes "q" ∷ [])
      ≡ Some (plain (Generate Forwards 5))
  pub greatest : settings (codes "rpq" ∷ codes "--workers=64" ∷ codes "--history=2000000"
      ∷ codes "q" ∷ codes "s" ∷ [])
      ≡ Some (record (forwards (over (codes "s" ∷ []))) {
        workers = 64;
        extent = Capped (Some 2000000) (Streams (ForwardRun (over (codes "s" ∷ []))));
      })
  pub most_made : settings (codes "rpq" ∷ codes "--generate=1000000" ∷ codes "q" ∷ [])
      ≡ Some (plain (Generate Forwards 1000000))
  pub over_made : settings (codes "rpq" ∷ codes "--generate=1000001" ∷ codes "q" ∷ []) ≡ None
  pub no_stream : settings (codes "rpq" ∷ codes "q" ∷ []) ≡ None
  pub no_queries : settings (codes "rpq" ∷ []) ≡ None
  pub above : settings (codes "rpq" ∷ codes "--workers=65" ∷ codes "q" ∷ codes "s" ∷ []) ≡ None
  pub zero : settings (codes "rpq" ∷ codes "--history=0" ∷ codes "q" ∷ codes "s" ∷ []) ≡ None
  pub sign : settings (codes "rpq" ∷ codes "--workers=+4" ∷ codes "q" ∷ codes "s" ∷ []) ≡ None
  pub twice : settings (codes "rpq" ∷ codes "--check" ∷ codes "--check" ∷ codes "q" ∷ []) ≡ None
  pub alone : settings (codes "rpq" ∷ codes "--asks=a" ∷ codes "q" ∷ codes "s" ∷ []) ≡ None
  pub both : settings (codes "rpq" ∷ codes "--check" ∷ codes "--generate=5" ∷ codes "q" ∷ []) ≡ None
  pub stream : settings (codes "rpq" ∷ codes "--check" ∷ codes "q" ∷ codes "s" ∷ []) ≡ None
  pub hyphen : settings (codes "rpq" ∷ codes "--asks" ∷ codes "-a" ∷ codes "--replies=r"
      ∷ codes "q" ∷ codes "s" ∷ []) ≡ None
  pub short : settings (codes "rpq" ∷ codes "--work=4" ∷ codes "q" ∷ codes "s" ∷ []) ≡ None
  pub help : settings (codes "rpq" ∷ codes "--help" ∷ codes "q" ∷ codes "s" ∷ []) ≡ None
  pub windows : SavedExamples
  pub both_ways : TwoWayExamples
  pub paths : PathsExamples
  pub joins : JoinsExamples
  pub without_end : EndlessExamples
  pub readers : ReaderExamples
  pub faults : FaultFileExamples
