-- The statuses of runs, the lines of those that don't begin and of streams and readers by their
-- ends, and how several of them go together.
use Rattle.std.specs.Prelude.{◌≡◌, ℕ, [], ◌∷◌, ◌++◌, codes}
use Rattle.history_model.specs.declared.line.Why.{Why}
use Rattle.history_model.specs.declared.line.Why.TheVariants.{Write, Memory as MemoryOfAll}
use Rattle.query_file.specs.declared.fault.QueryFault.{QueryFault}
use Rattle.join_file.specs.declared.fault.JoinFileFault.{JoinFileFault}
use Rattle.ask_text.specs.declared.fault.AskFault.{AskFault}
use Rattle.tuple_text.specs.declared.read.BadLine.{BadLine}
use Rattle.tuple_text.specs.declared.read.BadLine.TheVariants.{Time}
use Rattle.stream_tuples.specs.declared.ends.StreamEnd.TheVariants.{Whole, Line, LongLine}
use Rattle.stream_tuples.specs.declared.ends.StreamEnd.TheVariants.{LongStream, Read, Full, Closed}
use Rattle.stream_tuples.specs.declared.ends.StreamEnd.TheVariants.{Faults, Memory}
use Rattle.live_asks.specs.declared.ends.ReaderEnd.TheVariants as reader
use Rattle.rpq_text.specs.declared.ends.Which.{Which}
use Rattle.rpq_text.specs.declared.ends.Which.TheVariants as file
use Rattle.rpq_text.specs.declared.ends.SinkName.TheVariants.{Events, Replies, Save}
use Rattle.rpq_text.specs.declared.ends.StartFault.TheVariants as start
use Rattle.rpq_text.specs.ErrorLines.{start_line, end_line, reader_line, run_lines}
use Rattle.rpq_text.specs.Statuses.{status_of_start, first_status}

-- the statuses of runs that don't begin: by the words, by a fault of one of the files that are read
-- whole, by a file that couldn't be opened, by one of which a read failed or that is too long, and
-- for want of memory
pub record StartStatuses : Type 0 where
  pub words : status_of_start start.Words ≡ 1
  pub queries : (fault : QueryFault) → status_of_start (start.Queries fault) ≡ 2
  pub asks : (fault : AskFault) → status_of_start (start.Asks fault) ≡ 3
  pub joins : (fault : JoinFileFault) → status_of_start (start.Joins fault) ≡ 10
  pub no_queries : status_of_start (start.Open file.Queries) ≡ 5
  pub no_joins : status_of_start (start.Open file.Joins) ≡ 5
  pub no_asks : status_of_start (start.Open file.Asks) ≡ 5
  pub no_from : status_of_start (start.Open file.From) ≡ 5
  pub no_stream : (number : ℕ) → status_of_start (start.Open (file.Stream number)) ≡ 5
  pub no_replies : status_of_start (start.Open file.Replies) ≡ 6
  pub no_save : status_of_start (start.Open file.Save) ≡ 6
  pub no_faults_of : (number : ℕ) → status_of_start (start.Open (file.FaultsOf number)) ≡ 6
  pub no_asks_of : (number : ℕ) → status_of_start (start.Open (file.AsksOf number)) ≡ 5
  pub no_replies_of : (number : ℕ) → status_of_start (start.Open (file.RepliesOf number)) ≡ 6
  pub unread : (which : Which) → status_of_start (start.Read which) ≡ 5
  pub long : (which : Which) → status_of_start (start.Long which) ≡ 7
  pub memory : status_of_start start.Memory ≡ 8

-- the statuses of runs that began, of which one thing alone is to be told: all streams were read to
-- their ends; an end of a stream, as that its faulty lines couldn't be written; and a write that
-- failed
pub record EndStatuses : Type 0 where
  pub whole : first_status (Whole ∷ Whole ∷ []) [] [] ≡ 0
  pub faulty : (number : ℕ) (fault : BadLine) → first_status (Line number fault ∷ []) [] [] ≡ 4
  pub long_line : (number : ℕ) → first_status (LongLine number ∷ []) [] [] ≡ 4
  pub unread : first_status (Read ∷ []) [] [] ≡ 5
  pub untold : first_status (Faults ∷ []) [] [] ≡ 6
  pub long : first_status (LongStream ∷ []) [] [] ≡ 7
  pub full : first_status (Full ∷ []) [] [] ≡ 7
  pub memory : first_status (Memory ∷ []) [] [] ≡ 8
  pub shut_by_write : first_status (Closed Write ∷ []) [] [] ≡ 6
  pub shut_for_memory : first_status (Closed MemoryOfAll ∷ []) [] [] ≡ 8
  pub events : first_status [] [] (Events ∷ []) ≡ 6
  pub replies : first_status [] [] (Replies ∷ []) ≡ 6
  pub save : first_status [] [] (Save ∷ []) ≡ 6

-- and those of runs of which an end of a reader alone is to be told: of one that was read to its
-- end, one that left, and one for which the history was shut there is nothing
pub record ReaderStatuses : Type 0 where
  pub whole : first_status (Whole ∷ []) (reader.Whole ∷ reader.Whole ∷ []) [] ≡ 0
  pub left : (line : ℕ) → first_status [] (reader.Left line ∷ []) [] ≡ 0
  pub long : first_status [] (reader.LongText ∷ []) [] ≡ 9
  pub unread : first_status [] (reader.Read ∷ []) [] ≡ 9
  pub unwritten : first_status [] (reader.Write ∷ []) [] ≡ 9
  pub shut : (why : Why) → first_status [] (reader.Closed why ∷ []) [] ≡ 0
  pub memory : first_status [] (reader.Memory ∷ []) [] ≡ 8

-- which of two statuses counts, whichever came first: 8 before 6, 6 before 7, 7 before 5, 5 before
-- 4, 4 before 9, and 9 before 0
pub record StatusOrder : Type 0 where
  pub memory : first_status (Memory ∷ []) [] (Events ∷ []) ≡ 8
  pub write : first_status (Full ∷ []) [] (Save ∷ []) ≡ 6
  pub faults : first_status (Full ∷ Faults ∷ []) [] [] ≡ 6
  pub limit : first_status (Read ∷ Full ∷ []) [] [] ≡ 7
  pub read : first_status (Line 1 Time ∷ Read ∷ []) [] [] ≡ 5
  pub line : first_status (Whole ∷ LongLine 1 ∷ Whole ∷ []) (reader.Write ∷ []) [] ≡ 4
  pub readers : first_status (Whole ∷ []) (reader.Whole ∷ reader.Read ∷ reader.Left 2 ∷ []) [] ≡ 9
  pub short_reader : first_status (Read ∷ []) (reader.Write ∷ reader.Memory ∷ []) (Save ∷ []) ≡ 8

-- the lines of runs that don't begin, beside those of faults
pub record StartLines : Type 0 where
  pub no_queries : start_line (start.Open file.Queries) ≡ codes "rpq: read failed: queries\n"
  pub no_asks : start_line (start.Open file.Asks) ≡ codes "rpq: read failed: asks\n"
  pub unread : start_line (start.Read file.Queries) ≡ codes "rpq: read failed: queries\n"
  pub unread_joins : start_line (start.Read file.Joins) ≡ codes "rpq: read failed: joins\n"
  pub unread_asks : start_line (start.Read file.Asks) ≡ codes "rpq: read failed: asks\n"
  pub long : start_line (start.Long file.Queries) ≡ codes "rpq: queries: too long\n"
  pub long_asks : start_line (start.Long file.Asks) ≡ codes "rpq: asks: too long\n"
  pub no_faults_of : start_line (start.Open (file.FaultsOf 2))
      ≡ codes "rpq: write failed: faults 2\n"
  pub no_asks_of : start_line (start.Open (file.AsksOf 2)) ≡ codes "rpq: read failed: reader 2\n"
  pub no_replies_of : start_line (start.Open (file.RepliesOf 64))
      ≡ codes "rpq: write failed: reader 64\n"
  pub memory : start_line start.Memory ≡ codes "rpq: memory\n"

-- the lines of streams by their ends, of which those that tell no fault of the stream have none
pub record EndLines : Type 0 where
  pub whole : end_line 1 Whole ≡ []
  pub faulty : end_line 2 (Line 10 Time) ≡ codes "rpq: stream 2 line 10: time\n"
  pub long_line : end_line 12 (LongLine 3) ≡ codes "rpq: stream 12 line 3: too long\n"
  pub long : end_line 2 LongStream ≡ codes "rpq: stream 2: too long\n"
  pub unread : end_line 1 Read ≡ codes "rpq: read failed: stream 1\n"
  pub untold : end_line 12 Faults ≡ codes "rpq: write failed: faults 12\n"
  pub full : end_line 64 Full ≡ codes "rpq: stream 64: history full\n"
  pub shut : end_line 1 (Closed Write) ≡ []
  pub memory : end_line 1 Memory ≡ []

-- the lines of readers by their ends, of which those that tell no fault of the reader have none
pub record ReaderLines : Type 0 where
  pub whole : reader_line 1 reader.Whole ≡ []
  pub left : (line : ℕ) → reader_line 1 (reader.Left line) ≡ []
  pub long : reader_line 2 reader.LongText ≡ codes "rpq: reader 2: too long\n"
  pub unread : reader_line 1 reader.Read ≡ codes "rpq: read failed: reader 1\n"
  pub unwritten : reader_line 64 reader.Write ≡ codes "rpq: write failed: reader 64\n"
  pub shut : (why : Why) → reader_line 1 (reader.Closed why) ≡ []
  pub memory : reader_line 1 reader.Memory ≡ []

-- a run in which a line of the first stream is faulty, the third finds the history full, and memory
-- ran out, in which writes of two sinks failed, the first reader's replies couldn't be written, the
-- second one left, and the third one's asks couldn't be read: the streams are told by their
-- numbers, then the sinks, then the readers by theirs, and memory last; and it is told where it is
-- the status alone; and one in which the second stream's faulty lines couldn't be written
pub record LinesInOrder : Type 0 where
  pub all : run_lines (Line 2 Time ∷ Whole ∷ Full ∷ [])
      (reader.Write ∷ reader.Left 7 ∷ reader.Read ∷ []) (Events ∷ Save ∷ []) 8
      ≡ codes "rpq: stream 1 line 2: time\nrpq: stream 3: history full\n"
      ++ codes "rpq: write failed: events\nrpq: write failed: save\n"
      ++ codes "rpq: write failed: reader 1\nrpq: read failed: reader 3\nrpq: memory\n"
  pub others : run_lines (Line 2 Time ∷ Whole ∷ []) (reader.Whole ∷ []) [] 4
      ≡ codes "rpq: stream 1 line 2: time\n"
  pub untold : run_lines (Full ∷ Faults ∷ []) [] (Replies ∷ []) 6
      ≡ codes "rpq: stream 1: history full\nrpq: write failed: faults 2\n"
      ++ codes "rpq: write failed: replies\n"
