-- What can't stand together.
use Rattle.std.specs.Prelude.{Bool, true, false, not, ◌&&◌, ◌||◌, ◌==◌, nat_lt, List, length}
use Rattle.std.specs.Prelude.{bytes_eq, Option, Some, None, is_some}
use Rattle.clap.specs.Walk.{Text, is_empty}
use Rattle.rpq_words.specs.declared.parsed_words.ParsedWords.{ParsedWords}
use Rattle.rpq_words.specs.declared.parsed_words.StreamWords.{StreamWords}

-- no stream is to be read: the queries are checked alone, or tuples are generated
abbrev pub reads_none : ParsedWords → Bool
reads_none found = found.check || is_some found.generate

-- exactly one of the two is there
abbrev pub is_one_alone : {A B : Type 0} → Option A → Option B → Bool
is_one_alone (Some x) None = true
is_one_alone None (Some y) = true
is_one_alone _ _ = false

-- a file is named that only a run over streams has that takes edges forwards alone
abbrev pub names_file : StreamWords → Bool
names_file words =
    is_some words.asks
    || (is_some words.joins
    || (is_some words.save || (is_some words.from || not (is_empty words.readers))))

-- a file is named, or a stream, that only a run over streams has
abbrev pub names_stream_file : StreamWords → Bool
names_stream_file words =
    names_file words || (not (is_empty words.streams) || not (is_empty words.faults))

-- paths are written, but no stream is read, edges may be taken backwards, or there is a file of
-- joins
abbrev pub paths_clash : ParsedWords → Bool
paths_clash found = found.words.paths
    && (reads_none found || (found.two_way || is_some found.words.joins))

-- both are there, and are the same text
abbrev pub is_same_file : Option Text → Option Text → Bool
is_same_file (Some x) (Some y) = bytes_eq x y
is_same_file _ _ = false

-- a file to begin with is there, but not exactly one stream, or it is the file to save to
abbrev pub from_clashes : StreamWords → Bool
from_clashes words =
    (is_some words.from && not (length words.streams == 1))
    || is_same_file words.save words.from

-- there are more readers beside the run than are taken
abbrev pub readers_clash : ParsedWords → Bool
readers_clash found = nat_lt 64 (length found.words.readers)

-- there is no file of faulty lines, or one for each stream
abbrev pub is_one_each : List Text → List Text → Bool
is_one_each faults streams = is_empty faults || (length faults == length streams)

-- there are files of faulty lines, but not one for each stream
abbrev pub faults_clash : ParsedWords → Bool
faults_clash found = not (is_one_each found.words.faults found.words.streams)

-- no stream is there where some are to be read, or more than are taken, or a file to begin with
-- clashes
abbrev pub streams_clash : ParsedWords → Bool
streams_clash found =
    (not (reads_none found) && is_empty found.words.streams)
    || (nat_lt 64 (length found.words.streams) || from_clashes found.words)

-- the run goes on as long as its streams do, but it is said how many tuples the history holds, or no
-- stream is read
abbrev pub endless_clashes : ParsedWords → Bool
endless_clashes found = found.endless && (is_some found.history || reads_none found)

-- what can't stand together does: one of the asks and the replies without the other; a check and
-- generated tuples; one of these and asks, joins, a file to save to or to begin with, a reader, a
-- file of faulty lines, or a stream; edges taken backwards and asks, joins, a file to save to or to
-- begin with, or a reader; paths and a check, generated tuples, edges taken backwards, or joins;
-- neither a check nor generated tuples, and no stream; more readers or streams than are taken;
-- files of faulty lines and not as many streams; a file to begin with and not exactly one stream,
-- or the same file to save to; or a run as long as its streams and a number of tuples that its
-- history holds, a check, or generated tuples
unfoldable pub clash : ParsedWords → Bool
clash found =
    endless_clashes found
    || (is_one_alone found.words.asks found.words.replies
    || ((found.check && is_some found.generate)
    || ((reads_none found && names_stream_file found.words)
    || ((found.two_way && names_file found.words)
    || (paths_clash found || (readers_clash found
    || (faults_clash found || streams_clash found)))))))
