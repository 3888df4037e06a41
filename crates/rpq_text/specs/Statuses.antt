-- The status of a run, by why it didn't begin, or by how its streams and readers ended and which
-- writes failed.
use Rattle.std.specs.Prelude.{◌≡◌, ◌≢◌, ℕ, Bool, ◌==◌, ◌||◌, List, [], ◌∷◌, find, filter, unwrap_or}
use Rattle.std.specs.List.{list_any}
use Rattle.history_model.specs.declared.line.Why.TheVariants.{Write, Memory as MemoryOfAll}
use Rattle.stream_tuples.specs.declared.ends.StreamEnd.{StreamEnd}
use Rattle.stream_tuples.specs.declared.ends.StreamEnd.TheVariants.{Whole, Line, LongLine}
use Rattle.stream_tuples.specs.declared.ends.StreamEnd.TheVariants.{LongStream, Read, Full, Closed}
use Rattle.stream_tuples.specs.declared.ends.StreamEnd.TheVariants.{Faults, Memory}
use Rattle.rpq_text.specs.declared.ends.Which.{Which}
use Rattle.rpq_text.specs.declared.ends.Which.TheVariants.{Queries, Joins, Asks, From, Stream}
use Rattle.live_asks.specs.declared.ends.ReaderEnd.{ReaderEnd}
use Rattle.live_asks.specs.declared.ends.ReaderEnd.TheVariants as reader
use Rattle.rpq_text.specs.declared.ends.Which.TheVariants.{Replies, Save, FaultsOf, AsksOf}
use Rattle.rpq_text.specs.declared.ends.Which.TheVariants.{RepliesOf}
use Rattle.rpq_text.specs.declared.ends.SinkName.{SinkName}
use Rattle.rpq_text.specs.declared.ends.SinkName.TheVariants.{Events, Replies as RepliesSink}
use Rattle.rpq_text.specs.declared.ends.SinkName.TheVariants.{Save as SaveSink}
use Rattle.rpq_text.specs.declared.ends.StartFault.{StartFault}
use Rattle.rpq_text.specs.declared.ends.StartFault.TheVariants.{Words, Queries as QueriesFault}
use Rattle.rpq_text.specs.declared.ends.StartFault.TheVariants.{Joins as JoinsFaulty}
use Rattle.rpq_text.specs.declared.ends.StartFault.TheVariants.{Asks as AsksFault, Open}
use Rattle.rpq_text.specs.declared.ends.StartFault.TheVariants.{Read as ReadAtStart, Long}
use Rattle.rpq_text.specs.declared.ends.StartFault.TheVariants.{Memory as MemoryAtStart}

-- all was done
abbrev pub done_status : ℕ
done_status = 0

-- the words have no settings
abbrev pub words_status : ℕ
words_status = 1

-- the queries file has a fault
abbrev pub queries_status : ℕ
queries_status = 2

-- the asks file has a fault
abbrev pub asks_status : ℕ
asks_status = 3

-- a line of a stream is faulty or too long
abbrev pub line_status : ℕ
line_status = 4

-- a file couldn't be opened to be read, or a read of it failed
abbrev pub read_status : ℕ
read_status = 5

-- a write failed, or a file couldn't be opened to be written
abbrev pub write_status : ℕ
write_status = 6

-- the history is full, or a file has too many bytes
abbrev pub limit_status : ℕ
limit_status = 7

-- memory ran out
abbrev pub memory_status : ℕ
memory_status = 8

-- the asks of a reader couldn't be read to their end, or its replies not be written
abbrev pub reader_status : ℕ
reader_status = 9

-- the joins file has a fault
abbrev pub joins_status : ℕ
joins_status = 10

-- the status of a run that couldn't open this file: the replies, the saved window, the faulty lines
-- of a stream and the replies of a reader were to be written, and the others to be read
abbrev pub status_of_opening : Which → ℕ
status_of_opening Queries = read_status
status_of_opening Joins = read_status
status_of_opening Asks = read_status
status_of_opening From = read_status
status_of_opening (Stream number) = read_status
status_of_opening Replies = write_status
status_of_opening Save = write_status
status_of_opening (FaultsOf number) = write_status
status_of_opening (AsksOf number) = read_status
status_of_opening (RepliesOf number) = write_status

-- the status of a run that didn't begin
abbrev pub status_of_start : StartFault → ℕ
status_of_start Words = words_status
status_of_start (QueriesFault fault) = queries_status
status_of_start (JoinsFaulty fault) = joins_status
status_of_start (AsksFault fault) = asks_status
status_of_start (Open which) = status_of_opening which
status_of_start (ReadAtStart which) = read_status
status_of_start (Long which) = limit_status
status_of_start MemoryAtStart = memory_status

-- the status of a run in which nothing but this end of a stream arose
abbrev pub status_of_end : StreamEnd → ℕ
status_of_end Whole = done_status
status_of_end (Line number fault) = line_status
status_of_end (LongLine number) = line_status
status_of_end LongStream = limit_status
status_of_end Read = read_status
status_of_end Faults = write_status
status_of_end Full = limit_status
status_of_end (Closed Write) = write_status
status_of_end (Closed MemoryOfAll) = memory_status
status_of_end Memory = memory_status

-- the status of a run in which nothing but this end of a reader arose; a history that was shut for
-- it has its own cause
abbrev pub status_of_reader : ReaderEnd → ℕ
status_of_reader reader.Whole = done_status
status_of_reader (reader.Left line) = done_status
status_of_reader reader.LongText = reader_status
status_of_reader reader.Read = reader_status
status_of_reader reader.Write = reader_status
status_of_reader (reader.Closed why) = done_status
status_of_reader reader.Memory = memory_status

-- the status of a run in which nothing but a failed write of this sink arose
abbrev pub status_of_sink : SinkName → ℕ
status_of_sink Events = write_status
status_of_sink RepliesSink = write_status
status_of_sink SaveSink = write_status

-- the sinks on which a run writes what it finds, in the order in which their lines stand on the
-- errors
abbrev pub all_sinks : List SinkName
all_sinks = Events ∷ RepliesSink ∷ SaveSink ∷ []

-- some of these sinks, each once and in their order
abbrev pub AreSomeSinks : List SinkName → Type 0
AreSomeSinks sinks = (chosen : SinkName → Bool) × (sinks ≡ filter chosen all_sinks)

-- whether the status is that of an end of a stream or of a reader, or that of a failed write of a
-- sink
abbrev pub arose : List StreamEnd → List ReaderEnd → List SinkName → ℕ → Bool
arose ends readers failed status =
    list_any (λ end. status_of_end end == status) ends
    || (list_any (λ end. status_of_reader end == status) readers
    || list_any (λ sink. status_of_sink sink == status) failed)

-- the statuses of what can go wrong after the start, in the order in which they count
abbrev pub status_order : List ℕ
status_order =
    memory_status ∷ write_status ∷ limit_status ∷ read_status ∷ line_status ∷ reader_status ∷ []

-- the first status of the order that arose, else that all was done
abbrev pub first_status : List StreamEnd → List ReaderEnd → List SinkName → ℕ
first_status ends readers failed =
    unwrap_or (find (arose ends readers failed) status_order) done_status

-- the status of a run whose streams and readers ended so, and in which writes of these sinks
-- failed: that of out of memory, which can arise by itself, or else the first that arose
pub record IsStatusOf (ends : List StreamEnd) (readers : List ReaderEnd) (failed : List SinkName)
    (status : ℕ) : Type 0 where
  pub memory : first_status ends readers failed ≡ memory_status → status ≡ memory_status
  pub others : status ≢ memory_status → status ≡ first_status ends readers failed
