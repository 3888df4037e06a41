-- The settings that the words of a command line are.
use Rattle.std.specs.Prelude.{ℕ, Bool, true, false, not, ◌||◌, nat_lt, List, [], ◌∷◌, length}
use Rattle.std.specs.Prelude.{Option, Some, None, is_some, if◌then◌else◌, map, string_bytes, String}
use Rattle.std.specs.Prelude.{bytes_eq}
use Rattle.std.specs.Global.{Global}
use Rattle.clap.specs.Walk.{Row, Text, is_empty}
use Rattle.rpq_words.specs.declared.parsed_words.ParsedWords.{ParsedWords}
use Rattle.rpq_words.specs.declared.parsed_words.StreamWords.{StreamWords}
use Rattle.rpq_words.specs.declared.settings.Extent.{Extent}
use Rattle.rpq_words.specs.declared.settings.Extent.TheVariants.{Capped, Endless}
use Rattle.rpq_words.specs.declared.reader_names.ReaderFiles.{ReaderFiles}
use Rattle.rpq_words.specs.declared.settings.RunMode.{RunMode}
use Rattle.rpq_words.specs.declared.settings.RunMode.TheVariants.{Check, Generate, Streams}
use Rattle.rpq_words.specs.declared.settings.Directions.{Directions}
use Rattle.rpq_words.specs.declared.settings.Directions.TheVariants.{Forwards, BothWays}
use Rattle.rpq_words.specs.declared.settings.StreamSettings.{StreamSettings}
use Rattle.rpq_words.specs.declared.settings.StreamSettings.TheVariants.{Forwards as ForwardRun}
use Rattle.rpq_words.specs.declared.settings.StreamSettings.TheVariants.{BothWays as TwoWayRun}
use Rattle.rpq_words.specs.declared.settings.ForwardSettings.{ForwardSettings}
use Rattle.rpq_words.specs.declared.settings.Input.{Input}
use Rattle.rpq_words.specs.declared.settings.Input.TheVariants.{Fresh, Resumed}
use Rattle.rpq_words.specs.declared.settings.OutputKind.{OutputKind}
use Rattle.rpq_words.specs.declared.settings.OutputKind.TheVariants.{Pairs, Paths, Bindings}
use Rattle.rpq_words.specs.declared.settings.AskFiles.{AskFiles}
use Rattle.rpq_words.specs.Clash.{is_one_each, names_file}
use Rattle.rpq_words.specs.Command.{found_in, is_taken}
use Rattle.rpq_words.specs.Found.{words_found}
use Rattle.rpq_words.specs.Options.{◌>>=◌}
use Rattle.rpq_words.specs.declared.settings.Settings.{Settings}

-- the words as texts
abbrev pub texts : List (String Global) → List Text
texts words = map (λ word. string_bytes word) words

-- how edges may be taken
abbrev pub directions_from : Bool → Directions
directions_from false = Forwards
directions_from true = BothWays

-- the names of streams, where there are 1 to 64
unfoldable pub names_from : List Text → Option (List Text)
names_from names = if is_empty names || nat_lt 64 (length names) then None else Some names

-- the name of the one stream, where there is exactly one
abbrev pub only_name : List Text → Option Text
only_name [] = None
only_name (name ∷ []) = Some name
only_name (first ∷ second ∷ rest) = None

-- what is read: some streams, or what an earlier run saved and one stream
unfoldable pub input_from : Option Text → List Text → Option Input
input_from None names = names_from names >>= λ streams. Some (Fresh streams)
input_from (Some from) names = only_name names >>= λ stream. Some (Resumed from stream)

-- what is told beside the pairs: not paths and bindings at once
unfoldable pub shown_from : Bool → Option Text → Option OutputKind
shown_from false None = Some Pairs
shown_from false (Some joins) = Some (Bindings joins)
shown_from true None = Some Paths
shown_from true (Some joins) = None

-- the files of asks and replies: both or none
unfoldable pub asked_from : Option Text → Option Text → Option (Option AskFiles)
asked_from None None = Some None
asked_from (Some asks) (Some replies) = Some (Some (record { asks = asks; replies = replies }))
asked_from None (Some replies) = None
asked_from (Some asks) None = None

-- the files of the readers beside a run, where there are at most 64
unfoldable pub readers_from : List ReaderFiles → Option (List ReaderFiles)
readers_from readers = if nat_lt 64 (length readers) then None else Some readers

-- the files that faulty lines of these streams are told on: one for each, or none
unfoldable pub faults_from : List Text → List Text → Option (List Text)
faults_from faults streams =
    if is_one_each faults streams then Some faults else None

-- the file to save to is the one that a run begins with
abbrev pub saves_over : Option Text → Input → Bool
saves_over (Some save) (Resumed from stream) = bytes_eq save from
saves_over (Some save) (Fresh streams) = false
saves_over None input = false

-- a run over streams that takes edges forwards alone; it doesn't save to the file that it begins
-- with
unfoldable pub forwards_from : StreamWords → Option ForwardSettings
forwards_from words =
    asked_from words.asks words.replies >>= λ asked.
    shown_from words.paths words.joins >>= λ shown.
    readers_from words.readers >>= λ readers.
    faults_from words.faults words.streams >>= λ faults.
    input_from words.from words.streams >>= λ input.
    if saves_over words.save input then None
    else Some (record {
      input = input;
      shown = shown;
      asked = asked;
      readers = readers;
      save = words.save;
      faults = faults;
    })

-- something stands there that only a run over streams has that takes edges forwards alone
abbrev pub has_forward_words : StreamWords → Bool
has_forward_words words = is_some words.replies || (names_file words || words.paths)

-- something stands there that only a run over streams has
abbrev pub has_stream_words : StreamWords → Bool
has_stream_words words =
    has_forward_words words || (not (is_empty words.streams) || not (is_empty words.faults))

-- a run over streams
unfoldable pub streams_from : Bool → StreamWords → Option StreamSettings
streams_from false words = forwards_from words >>= λ run. Some (ForwardRun run)
streams_from true words = if has_forward_words words then None
    else (faults_from words.faults words.streams >>= λ faults.
    names_from words.streams >>= λ streams.
    Some (TwoWayRun (record { streams = streams; faults = faults })))

-- what is done with the queries
unfoldable pub mode_from : Bool → Option ℕ → Bool → StreamWords → Option RunMode
mode_from true (Some count) two_way words = None
mode_from true None two_way words =
    if has_stream_words words then None else Some (Check (directions_from two_way))
mode_from false (Some count) two_way words =
    if has_stream_words words then None else Some (Generate (directions_from two_way) count)
mode_from false None two_way words = streams_from two_way words >>= λ run. Some (Streams run)

-- what is done and for how long: a run goes on as long as its streams do only where it reads some,
-- and where nothing is said of how many tuples the history holds
abbrev pub extent_from : Bool → Option ℕ → RunMode → Option Extent
extent_from false history mode = Some (Capped history mode)
extent_from true (Some most) mode = None
extent_from true None (Check directions) = None
extent_from true None (Generate directions count) = None
extent_from true None (Streams run) = Some (Endless run)

-- the settings, where all that was found can stand together
unfoldable pub settings_from : ParsedWords → Option Settings
settings_from found = mode_from found.check found.generate found.two_way found.words >>= λ mode.
    extent_from found.endless found.history mode >>= λ extent.
    Some (record { queries = found.queries; workers = found.workers; extent = extent })

-- what was found, where each number is in its range and all can stand together
unfoldable pub settled : List Row → Option Settings
settled rows = words_found rows >>= settings_from

-- the settings of the words, where the command takes them, each number is in its range and all can
-- stand together; else none
unfoldable pub settings : List Text → Option Settings
settings words = if is_taken words then settled (found_in words) else None
