-- The tuples of a stream's text, and how it ends: they are those of the lines before the first
-- faulty one, or of all lines, where faulty ones are told apart.
use Rattle.std.specs.Prelude.{ℕ, nat_le, List, [], ◌++◌, length, Option, Some, option_map}
use Rattle.std.specs.Prelude.{option_to_list, Result, Ok, Err, if◌then◌else◌}
use Rattle.rpq_base.specs.declared.data.Tuple.{Tuple}
use Rattle.text_items.specs.declared.ends.TextEnd.{TextEnd}
use Rattle.text_items.specs.Reading.{Reading, raw_gives}
use Rattle.text_items.specs.Items.{TextItems, items_of_lines, cut_items, items_from}
use Rattle.tuple_text.specs.declared.read.BadLine.{BadLine}
use Rattle.tuple_text.specs.FaultTexts.{fault_text}
use Rattle.tuple_text.specs.Reading.{line_tuple}
use Rattle.stream_tuples.specs.declared.ends.StreamEnd.{StreamEnd}
use Rattle.stream_tuples.specs.declared.ends.StreamEnd.TheVariants.{Whole, Line, LongLine, LongStream}
use Rattle.stream_tuples.specs.declared.ends.StreamEnd.TheVariants.{Read, Memory}
use Rattle.stream_tuples.specs.declared.faults.FaultPolicy.{FaultPolicy}
use Rattle.stream_tuples.specs.declared.faults.FaultPolicy.TheVariants.{Stop, Report}
use Rattle.stream_tuples.specs.declared.faults.StreamItem.{StreamItem}
use Rattle.stream_tuples.specs.declared.faults.StreamItem.TheVariants as item
use Rattle.stream_tuples.specs.Faults.{fault_report, long_report, tuples_in, reports_in}
use Rattle.stream_tuples.specs.Limits.{line_limit, byte_limit}

-- the tuples of a text, and how it ends
pub record StreamTuples : Type 0 where
  pub tuples : List Tuple
  pub end : StreamEnd

-- these tuples, and this end
abbrev pub tuples_with : List Tuple → StreamEnd → StreamTuples
tuples_with tuples end = record { tuples = tuples; end = end }

-- these tuples, and then those of the rest
abbrev pub tuples_before : List Tuple → StreamTuples → StreamTuples
tuples_before tuples rest = tuples_with (tuples ++ rest.tuples) rest.end

-- what a line gives that is faulty or too long: by the policy it ends the stream so, or this is
-- told of it
abbrev pub fault_gives : FaultPolicy → StreamEnd → List ℕ → Result (Option StreamItem) StreamEnd
fault_gives Stop end report = Err end
fault_gives Report end report = Ok (Some (item.Fault report))

-- what the line with this number and these bytes gives: its tuple or nothing, or it has a fault
abbrev pub numbered : FaultPolicy → ℕ → List ℕ → Result (Option Tuple) BadLine
    → Result (Option StreamItem) StreamEnd
numbered policy number line (Ok found) = Ok (option_map (λ tuple. item.Tuple tuple) found)
numbered policy number line (Err fault) =
    fault_gives policy (Line number fault) (fault_report number (fault_text fault) line)

-- how a stream is read: by the policy a line that is faulty or too long ends it or is told apart
abbrev pub stream_reading : FaultPolicy → Reading StreamItem StreamEnd
stream_reading policy = record {
  line = λ number line. numbered policy number line (line_tuple line);
  long = λ number front. fault_gives policy (LongLine number) (long_report number front);
}

-- what the raw line with this number gives: nothing, an item, or an end
unfoldable pub line_gives : FaultPolicy → ℕ → List ℕ → Result (Option StreamItem) StreamEnd
line_gives policy number line = raw_gives (stream_reading policy) number line

-- what a line gives, and then the rest, unless it ends the stream
abbrev pub line_before : Result (Option StreamItem) StreamEnd → StreamTuples → StreamTuples
line_before (Ok found) rest = tuples_before (tuples_in (option_to_list found)) rest
line_before (Err end) rest = tuples_with [] end

-- how a stream ends where the reading of its text does so
abbrev pub stream_end : TextEnd StreamEnd → StreamEnd
stream_end TextEnd.Whole = Whole
stream_end TextEnd.LongText = LongStream
stream_end TextEnd.Read = Read
stream_end TextEnd.Memory = Memory
stream_end (TextEnd.Line end) = end

-- the tuples among the items of a text, and how it ends as a stream
abbrev pub as_stream : TextItems StreamItem StreamEnd → StreamTuples
as_stream text = tuples_with (tuples_in text.items) (stream_end text.end)

-- the tuples of raw lines up to the first that ends the stream; the first line has this number, and
-- this is the end where none does
unfoldable pub tuples_of_lines : FaultPolicy → List (List ℕ) → ℕ → StreamEnd → StreamTuples
tuples_of_lines policy lines number end =
    as_stream (items_of_lines (stream_reading policy) lines number (TextEnd.Line end))

-- the end of a stream with too many bytes at a line with this number that is too long itself
abbrev pub long_end : FaultPolicy → ℕ → StreamEnd
long_end Stop number = LongLine number
long_end Report number = LongStream

-- the end of a stream with too many bytes whose last line, which has this number, is cut off like
-- this
abbrev pub cut_end : FaultPolicy → ℕ → List ℕ → StreamEnd
cut_end policy number line =
    if nat_le (length line) line_limit then LongStream else long_end policy number

-- the tuples of a text that is cut off: those of its lines that end with a line feed
unfoldable pub cut_tuples : FaultPolicy → ℕ → List ℕ → StreamTuples
cut_tuples policy number text = as_stream (cut_items (stream_reading policy) number text)

-- the tuples of a text whose first line has this number, and which is to have fewer bytes than the
-- limit; where it hasn't, so many count
unfoldable pub tuples_from : FaultPolicy → ℕ → ℕ → List ℕ → StreamTuples
tuples_from policy number limit text =
    as_stream (items_from (stream_reading policy) number limit text)

-- the tuples of a stream, and how it ends
abbrev pub stream_tuples : FaultPolicy → List ℕ → StreamTuples
stream_tuples policy text = tuples_from policy 1 byte_limit text

-- all that is told of the faulty lines of such a text, where they are told apart
unfoldable pub reports_from : ℕ → ℕ → List ℕ → List ℕ
reports_from number limit text =
    reports_in (items_from (stream_reading Report) number limit text).items
