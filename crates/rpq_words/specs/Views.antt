-- What settings say, one by one: those that only some runs have are no file, none, or not so in
-- another run.
use Rattle.std.specs.Prelude.{ℕ, ◌^◌, Bool, true, false, List, [], ◌∷◌, Option, Some, None}
use Rattle.std.specs.Prelude.{unwrap_or}
use Rattle.clap.specs.Walk.{Text}
use Rattle.rpq_words.specs.declared.settings.Settings.{Settings}
use Rattle.rpq_words.specs.declared.settings.Extent.{Extent}
use Rattle.rpq_words.specs.declared.settings.Extent.TheVariants.{Capped, Endless}
use Rattle.rpq_words.specs.declared.settings.RunMode.{RunMode}
use Rattle.rpq_words.specs.declared.settings.RunMode.TheVariants.{Check, Generate, Streams}
use Rattle.rpq_words.specs.declared.settings.ModeRef.{ModeRef}
use Rattle.rpq_words.specs.declared.settings.ModeRef.TheVariants.{Check as CheckTold}
use Rattle.rpq_words.specs.declared.settings.ModeRef.TheVariants.{Generate as GenerateTold}
use Rattle.rpq_words.specs.declared.settings.ModeRef.TheVariants.{Streams as StreamsTold}
use Rattle.rpq_words.specs.declared.settings.Directions.{Directions}
use Rattle.rpq_words.specs.declared.settings.Directions.TheVariants.{Forwards, BothWays}
use Rattle.rpq_words.specs.declared.settings.StreamSettings.TheVariants.{Forwards as ForwardRun}
use Rattle.rpq_words.specs.declared.settings.StreamSettings.TheVariants.{BothWays as TwoWayRun}
use Rattle.rpq_words.specs.declared.settings.ForwardSettings.{ForwardSettings}
use Rattle.rpq_words.specs.declared.settings.Input.{Input}
use Rattle.rpq_words.specs.declared.settings.Input.TheVariants.{Fresh, Resumed}
use Rattle.rpq_words.specs.declared.settings.OutputKind.{OutputKind}
use Rattle.rpq_words.specs.declared.settings.OutputKind.TheVariants.{Pairs, Paths, Bindings}
use Rattle.rpq_words.specs.declared.settings.AskFiles.{AskFiles}
use Rattle.rpq_words.specs.declared.reader_names.ReaderFiles.{ReaderFiles}
use Rattle.rpq_words.specs.Options.{◌>>=◌}

-- what is done with the queries
abbrev pub mode_in : Extent → RunMode
mode_in (Capped history mode) = mode
mode_in (Endless run) = Streams run

abbrev pub mode_of : Settings → RunMode
mode_of given = mode_in given.extent

-- what is done with the queries, where the settings are borrowed
abbrev pub mode_told : ModeRef → RunMode
mode_told (CheckTold directions) = Check directions
mode_told (GenerateTold directions count) = Generate directions count
mode_told (StreamsTold run) = Streams run.now

-- the run goes on as long as its streams do
abbrev pub is_endless_in : Extent → Bool
is_endless_in (Capped history mode) = false
is_endless_in (Endless run) = true

abbrev pub is_endless : Settings → Bool
is_endless given = is_endless_in given.extent

-- how many tuples the history holds at most: a million where the words don't say it. The run of an
-- endless one would end there
abbrev pub cap_in : Extent → ℕ
cap_in (Capped history mode) = unwrap_or history 1000000
cap_in (Endless run) = 2 ^ 61

abbrev pub cap_of : Settings → ℕ
cap_of given = cap_in given.extent

-- edges may be taken backwards
abbrev pub is_both_ways : Directions → Bool
is_both_ways Forwards = false
is_both_ways BothWays = true

abbrev pub two_way_in : RunMode → Bool
two_way_in (Check directions) = is_both_ways directions
two_way_in (Generate directions count) = is_both_ways directions
two_way_in (Streams (TwoWayRun run)) = true
two_way_in (Streams (ForwardRun run)) = false

abbrev pub two_way_of : Settings → Bool
two_way_of given = two_way_in (mode_of given)

-- the settings of a run over streams that takes edges forwards alone
abbrev pub forwards_in : RunMode → Option ForwardSettings
forwards_in (Check directions) = None
forwards_in (Generate directions count) = None
forwards_in (Streams (TwoWayRun run)) = None
forwards_in (Streams (ForwardRun run)) = Some run

abbrev pub forwards_of : Settings → Option ForwardSettings
forwards_of given = forwards_in (mode_of given)

-- a path is told behind each gained pair
abbrev pub has_paths : OutputKind → Bool
has_paths Pairs = false
has_paths Paths = true
has_paths (Bindings joins) = false

abbrev pub paths_in : Option ForwardSettings → Bool
paths_in None = false
paths_in (Some run) = has_paths run.shown

abbrev pub paths_of : Settings → Bool
paths_of given = paths_in (forwards_of given)

-- the file of the joins whose bindings are told
abbrev pub joins_in : OutputKind → Option Text
joins_in Pairs = None
joins_in Paths = None
joins_in (Bindings joins) = Some joins

abbrev pub joins_of : Settings → Option Text
joins_of given = forwards_of given >>= λ run. joins_in run.shown

-- the file of the asks
abbrev pub asks_in : Option AskFiles → Option Text
asks_in None = None
asks_in (Some files) = Some files.asks

abbrev pub asks_of : Settings → Option Text
asks_of given = forwards_of given >>= λ run. asks_in run.asked

-- the file that the replies are written to
abbrev pub replies_in : Option AskFiles → Option Text
replies_in None = None
replies_in (Some files) = Some files.replies

abbrev pub replies_of : Settings → Option Text
replies_of given = forwards_of given >>= λ run. replies_in run.asked

-- the files of the readers beside the run, in their order
abbrev pub readers_in : Option ForwardSettings → List ReaderFiles
readers_in None = []
readers_in (Some run) = run.readers

abbrev pub readers_of : Settings → List ReaderFiles
readers_of given = readers_in (forwards_of given)

-- the files that faulty lines of the streams are told on, in the order of the streams: one for each,
-- or none
abbrev pub faults_in : RunMode → List Text
faults_in (Check directions) = []
faults_in (Generate directions count) = []
faults_in (Streams (TwoWayRun run)) = run.faults
faults_in (Streams (ForwardRun run)) = run.faults

abbrev pub faults_of : Settings → List Text
faults_of given = faults_in (mode_of given)

-- the file that gets what a later run needs
abbrev pub save_of : Settings → Option Text
save_of given = forwards_of given >>= λ run. run.save

-- the file of what an earlier run saved
abbrev pub from_in : Input → Option Text
from_in (Fresh streams) = None
from_in (Resumed from stream) = Some from

abbrev pub from_of : Settings → Option Text
from_of given = forwards_of given >>= λ run. from_in run.input

-- the files of the streams
abbrev pub names_in : Input → List Text
names_in (Fresh streams) = streams
names_in (Resumed from stream) = stream ∷ []

abbrev pub streams_in : RunMode → List Text
streams_in (Check directions) = []
streams_in (Generate directions count) = []
streams_in (Streams (TwoWayRun run)) = run.streams
streams_in (Streams (ForwardRun run)) = names_in run.input

abbrev pub streams_of : Settings → List Text
streams_of given = streams_in (mode_of given)
