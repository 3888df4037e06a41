-- The lines on errors, each with a line feed at its end.
use Rattle.std.specs.Prelude.{ℕ, ◌+◌, ◌==◌, List, [], ◌∷◌, ◌++◌, codes, decimal, if◌then◌else◌}
use Rattle.std.specs.List.{flat_map}
use Rattle.tuple_text.specs.FaultTexts.{fault_text}
use Rattle.query_file.specs.FaultTexts.{query_kind_text}
use Rattle.ask_text.specs.FaultTexts.{ask_kind_text}
use Rattle.join_file.specs.FaultTexts.{joins_kind_text}
use Rattle.rpq_words.specs.Usage.{usage}
use Rattle.stream_tuples.specs.declared.ends.StreamEnd.{StreamEnd}
use Rattle.stream_tuples.specs.declared.ends.StreamEnd.TheVariants.{Whole, Line, LongLine}
use Rattle.stream_tuples.specs.declared.ends.StreamEnd.TheVariants.{LongStream, Read, Full, Closed}
use Rattle.stream_tuples.specs.declared.ends.StreamEnd.TheVariants.{Faults, Memory}
use Rattle.rpq_text.specs.declared.ends.Which.{Which}
use Rattle.rpq_text.specs.declared.ends.Which.TheVariants.{Queries, Joins, Asks, From, Stream}
use Rattle.live_asks.specs.declared.ends.ReaderEnd.{ReaderEnd}
use Rattle.live_asks.specs.declared.ends.ReaderEnd.TheVariants as reader
use Rattle.rpq_text.specs.declared.ends.Which.TheVariants.{Replies, Save, FaultsOf, AsksOf}
use Rattle.rpq_text.specs.declared.ends.Which.TheVariants.{RepliesOf}
use Rattle.rpq_text.specs.declared.ends.SinkName.{SinkName}
use Rattle.rpq_text.specs.declared.ends.SinkName.TheVariants.{Events, Replies as RepliesSink}
use Rattle.rpq_text.specs.declared.ends.SinkName.TheVariants.{Save as SaveSink}
use Rattle.rpq_text.specs.declared.ends.StartFault.{StartFault}
use Rattle.rpq_text.specs.declared.ends.StartFault.TheVariants.{Words, Queries as QueriesFault}
use Rattle.rpq_text.specs.declared.ends.StartFault.TheVariants.{Joins as JoinsFaulty}
use Rattle.rpq_text.specs.declared.ends.StartFault.TheVariants.{Asks as AsksFault, Open}
use Rattle.rpq_text.specs.declared.ends.StartFault.TheVariants.{Read as ReadAtStart, Long}
use Rattle.rpq_text.specs.declared.ends.StartFault.TheVariants.{Memory as MemoryAtStart}
use Rattle.rpq_text.specs.Statuses.{memory_status}

-- a file, as the lines name it
abbrev pub file_text : Which → List ℕ
file_text Queries = codes "queries"
file_text Joins = codes "joins"
file_text Asks = codes "asks"
file_text From = codes "from"
file_text (Stream number) = codes "stream " ++ decimal number
file_text Replies = codes "replies"
file_text Save = codes "save"
file_text (FaultsOf number) = codes "faults " ++ decimal number
file_text (AsksOf number) = codes "reader " ++ decimal number
file_text (RepliesOf number) = codes "reader " ++ decimal number

-- what is said of the line of the queries file with this number
unfoldable pub query_text : ℕ → List ℕ → List ℕ
query_text line text =
    codes "rpq: queries line " ++ (decimal line ++ (codes ": " ++ (text ++ codes "\n")))

-- what is said of the line of the joins file with this number
unfoldable pub joins_text : ℕ → List ℕ → List ℕ
joins_text line text =
    codes "rpq: joins line " ++ (decimal line ++ (codes ": " ++ (text ++ codes "\n")))

-- what is said of the line of the asks file with this number
unfoldable pub asks_text : ℕ → List ℕ → List ℕ
asks_text line text =
    codes "rpq: asks line " ++ (decimal line ++ (codes ": " ++ (text ++ codes "\n")))

-- the line of a failed read of a file
abbrev pub read_line : Which → List ℕ
read_line which = codes "rpq: read failed: " ++ file_text which ++ codes "\n"

-- the line of a failed write of a sink
abbrev pub write_line : SinkName → List ℕ
write_line Events = codes "rpq: write failed: events\n"
write_line RepliesSink = codes "rpq: write failed: replies\n"
write_line SaveSink = codes "rpq: write failed: save\n"

-- the line of a file that couldn't be written, or not be opened to be written
abbrev pub unwritten_line : Which → List ℕ
unwritten_line which = codes "rpq: write failed: " ++ file_text which ++ codes "\n"

-- the line of a file that couldn't be opened: the replies, the saved window, the faulty lines of a
-- stream and the replies of a reader were to be written, and the others to be read
abbrev pub opening_line : Which → List ℕ
opening_line Queries = read_line Queries
opening_line Joins = read_line Joins
opening_line Asks = read_line Asks
opening_line From = read_line From
opening_line (Stream number) = read_line (Stream number)
opening_line Replies = write_line RepliesSink
opening_line Save = write_line SaveSink
opening_line (FaultsOf number) = unwritten_line (FaultsOf number)
opening_line (AsksOf number) = read_line (AsksOf number)
opening_line (RepliesOf number) = unwritten_line (RepliesOf number)

-- the line of a run that didn't begin; where the words are refused, a second one says how the
-- command is used
abbrev pub start_line : StartFault → List ℕ
start_line Words = codes "rpq: words\n" ++ (usage ++ codes "\n")
start_line (QueriesFault fault) = query_text fault.line (query_kind_text fault.kind)
start_line (JoinsFaulty fault) = joins_text fault.line (joins_kind_text fault.kind)
start_line (AsksFault fault) = asks_text fault.line (ask_kind_text fault.kind)
start_line (Open which) = opening_line which
start_line (ReadAtStart which) = read_line which
start_line (Long which) = codes "rpq: " ++ file_text which ++ codes ": too long\n"
start_line MemoryAtStart = codes "rpq: memory\n"

-- what is said of the line of the stream with these numbers
unfoldable pub line_text : ℕ → ℕ → List ℕ → List ℕ
line_text stream line text =
    codes "rpq: " ++ (file_text (Stream stream)
    ++ (codes " line " ++ (decimal line ++ (codes ": " ++ (text ++ codes "\n")))))

-- the line of the stream with this number by its end; an end that tells no fault of the stream has
-- none
unfoldable pub end_line : ℕ → StreamEnd → List ℕ
end_line stream Whole = []
end_line stream (Line line fault) = line_text stream line (fault_text fault)
end_line stream (LongLine line) = line_text stream line (codes "too long")
end_line stream LongStream = codes "rpq: " ++ file_text (Stream stream) ++ codes ": too long\n"
end_line stream Read = read_line (Stream stream)
end_line stream Faults = unwritten_line (FaultsOf stream)
end_line stream Full = codes "rpq: " ++ file_text (Stream stream) ++ codes ": history full\n"
end_line stream (Closed why) = []
end_line stream Memory = []

-- the lines of streams by their ends; the first stream has this number
abbrev pub end_lines : ℕ → List StreamEnd → List ℕ
end_lines number [] = []
end_lines number (end ∷ ends) = end_line number end ++ end_lines (number + 1) ends

-- the line of the reader with this number by its end; an end that tells no fault of the reader has
-- none
unfoldable pub reader_line : ℕ → ReaderEnd → List ℕ
reader_line number reader.Whole = []
reader_line number (reader.Left line) = []
reader_line number reader.LongText =
    codes "rpq: " ++ file_text (AsksOf number) ++ codes ": too long\n"
reader_line number reader.Read = read_line (AsksOf number)
reader_line number reader.Write = unwritten_line (RepliesOf number)
reader_line number (reader.Closed why) = []
reader_line number reader.Memory = []

-- the lines of readers by their ends; the first reader has this number
abbrev pub reader_lines : ℕ → List ReaderEnd → List ℕ
reader_lines number [] = []
reader_lines number (end ∷ ends) = reader_line number end ++ reader_lines (number + 1) ends

-- the line for out of memory, on the status of that
unfoldable pub memory_line : ℕ → List ℕ
memory_line status = if status == memory_status then codes "rpq: memory\n" else []

-- the lines of a run that began: those of its streams, those of the sinks of which a write failed,
-- those of its readers, and that of out of memory
unfoldable pub run_lines : List StreamEnd → List ReaderEnd → List SinkName → ℕ → List ℕ
run_lines ends readers failed status =
    end_lines 1 ends
    ++ (flat_map write_line failed ++ (reader_lines 1 readers ++ memory_line status))
