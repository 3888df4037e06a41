-- The statuses of runs and their lines, computed.
use Rattle.std.proofs.Common.{refl}
use Rattle.std.specs.Fmt.{digits}
use Rattle.rpq_text.specs.ErrorLines.{line_text, end_line, reader_line, memory_line, run_lines}
use Rattle.rpq_text.specs.StatusExamples.{StartStatuses, EndStatuses, ReaderStatuses, StatusOrder}
use Rattle.rpq_text.specs.StatusExamples.{StartLines, EndLines, ReaderLines, LinesInOrder}

pub start_statuses : StartStatuses
start_statuses = record {
  words = refl;
  queries = λ fault. refl;
  asks = λ fault. refl;
  joins = λ fault. refl;
  no_queries = refl;
  no_joins = refl;
  no_asks = refl;
  no_from = refl;
  no_stream = λ number. refl;
  no_replies = refl;
  no_save = refl;
  no_faults_of = λ number. refl;
  no_asks_of = λ number. refl;
  no_replies_of = λ number. refl;
  unread = λ which. refl;
  long = λ which. refl;
  memory = refl;
}

pub end_statuses : EndStatuses
end_statuses = record {
  whole = refl;
  faulty = λ number fault. refl;
  long_line = λ number. refl;
  unread = refl;
  untold = refl;
  long = refl;
  full = refl;
  memory = refl;
  shut_by_write = refl;
  shut_for_memory = refl;
  events = refl;
  replies = refl;
  save = refl;
}

pub reader_statuses : ReaderStatuses
reader_statuses = record {
  whole = refl;
  left = λ line. refl;
  long = refl;
  unread = refl;
  unwritten = refl;
  shut = λ why. refl;
  memory = refl;
}

pub status_order : StatusOrder
status_order = record {
  memory = refl;
  write = refl;
  faults = refl;
  limit = refl;
  read = refl;
  line = refl;
  readers = refl;
  short_reader = refl;
}

pub start_lines : StartLines
unfolding digits
start_lines = record {
  no_queries = refl;
  no_asks = refl;
  unread = refl;
  unread_joins = refl;
  unread_asks = refl;
  long = refl;
  long_asks = refl;
  no_faults_of = refl;
  no_asks_of = refl;
  no_replies_of = refl;
  memory = refl;
}

pub end_lines : EndLines
unfolding line_text end_line digits
end_lines = record {
  whole = refl;
  faulty = refl;
  long_line = refl;
  long = refl;
  unread = refl;
  untold = refl;
  full = refl;
  shut = refl;
  memory = refl;
}

pub reader_lines : ReaderLines
unfolding reader_line digits
reader_lines = record {
  whole = refl;
  left = λ line. refl;
  long = refl;
  unread = refl;
  unwritten = refl;
  shut = λ why. refl;
  memory = refl;
}

pub lines_in_order : LinesInOrder
unfolding line_text end_line reader_line memory_line run_lines digits
lines_in_order = record { all = refl; others = refl; untold = refl }
