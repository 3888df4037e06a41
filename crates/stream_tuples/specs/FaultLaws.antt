-- What the definitions are meant to say of streams whose faults are told apart, as laws.
use Rattle.std.specs.Prelude.{◌≡◌, ℕ, ◌+◌, ◌<◌, ◌≤◌, nat_le, List, [], ◌∷◌, ◌++◌, length, take}
use Rattle.std.specs.Prelude.{false, flat_map, codes, Option, option_to_list, None, Result, Ok, Err}
use Rattle.std.specs.Prelude.{if◌then◌else◌}
use Rattle.text_parts.specs.Lines.{IsLine, line_feed, raw_lines, without_return}
use Rattle.text_parts.specs.EndedLines.{ended_lines}
use Rattle.rpq_base.specs.TupleValue.{TupleValue}
use Rattle.rpq_base.specs.declared.data.Act.TheVariants.{Insert}
use Rattle.rpq_base.specs.declared.data.Tuple.{Tuple}
use Rattle.tuple_text.specs.declared.read.BadLine.{BadLine}
use Rattle.tuple_text.specs.declared.read.BadLine.TheVariants.{Time}
use Rattle.tuple_text.specs.FaultTexts.{fault_text}
use Rattle.tuple_text.specs.Reading.{line_tuple}
use Rattle.stream_tuples.specs.declared.ends.StreamEnd.TheVariants.{Whole, Line, LongLine, LongStream}
use Rattle.stream_tuples.specs.declared.faults.FaultPolicy.TheVariants.{Stop, Report}
use Rattle.stream_tuples.specs.Ends.{CanEnd}
use Rattle.stream_tuples.specs.Faults.{fault_report, long_report}
use Rattle.stream_tuples.specs.Limits.{line_limit}
use Rattle.stream_tuples.specs.StreamText.{tuples_with, tuples_from, reports_from}

-- the tuple of a line whose reading gave this, if it has one, and what is told of the line, which
-- has this number and these bytes, if it has a fault
abbrev pub tuple_read : Result (Option Tuple) BadLine → List Tuple
tuple_read (Ok found) = option_to_list found
tuple_read (Err fault) = []

abbrev pub fault_told : ℕ → List ℕ → Result (Option Tuple) BadLine → List ℕ
fault_told number line (Ok found) = []
fault_told number line (Err fault) = fault_report number (fault_text fault) line

-- the same of a raw line, which may be too long
abbrev pub raw_tuple : List ℕ → List Tuple
raw_tuple line =
    if nat_le (length line) line_limit then tuple_read (line_tuple (without_return line)) else []

abbrev pub raw_report : ℕ → List ℕ → List ℕ
raw_report number line =
    if nat_le (length line) line_limit
    then fault_told number (without_return line) (line_tuple (without_return line))
    else long_report number (take line_limit line)

-- what is told of raw lines, the first of which has this number
unfoldable pub raw_reports : ℕ → List (List ℕ) → List ℕ
raw_reports number [] = []
raw_reports number (line ∷ lines) = raw_report number line ++ raw_reports (number + 1) lines

-- a text whose faults are told apart gives the tuples of all its lines, whatever lines are faulty,
-- and each faulty one is told with its number, in order; where the text doesn't have fewer bytes
-- than the limit, so it is of the lines with a line feed among the first bytes
pub record IsToldByLines (number limit : ℕ) (text : List ℕ) : Type 0 where
  pub within : length text < limit →
      tuples_from Report number limit text ≡ tuples_with (flat_map raw_tuple (raw_lines text)) Whole
  pub within_told : length text < limit →
      reports_from number limit text ≡ raw_reports number (raw_lines text)
  pub beyond : limit ≤ length text →
      let lines = ended_lines (take limit text) in
      tuples_from Report number limit text ≡ tuples_with (flat_map raw_tuple lines) LongStream
  pub beyond_told : limit ≤ length text →
      reports_from number limit text ≡ raw_reports number (ended_lines (take limit text))

abbrev pub ToldByLines : Type 0
ToldByLines = (number limit : ℕ) (text : List ℕ) → IsToldByLines number limit text

-- where no line of a text ends its stream, nothing changes if its faults are told apart, and none is
-- told
pub record ArePoliciesAlike (number limit : ℕ) (text : List ℕ) : Type 0 where
  pub tuples : tuples_from Report number limit text ≡ tuples_from Stop number limit text
  pub none_told : reports_from number limit text ≡ []

abbrev pub FaultlessIsAlike : Type 0
FaultlessIsAlike = (number limit : ℕ) (text : List ℕ)
    → CanEnd Report (tuples_from Stop number limit text).end → ArePoliciesAlike number limit text

-- an edge with the label "a"
abbrev pub inserted : ℕ → List ℕ → List ℕ → TupleValue
inserted time from to = record {
  time = time;
  act = Insert (record { from = from; label = record { name = codes "a"; back = false }; to = to }) None;
}

abbrev pub two_edges : List TupleValue
two_edges =
    inserted 1 (codes "x") (codes "y") ∷ inserted 3 (codes "y") (codes "w") ∷ []

-- a faulty line between two good ones ends the stream, or is told with its number and its bytes,
-- without its carriage return, and both good ones are read; of a long line the first 1,024 bytes
-- are told
pub record FaultExamples : Type 0 where
  pub ended : tuples_from Stop 1 100 (codes "1 x a y\nx\r\n3 y a w\n")
      ≡ tuples_with (inserted 1 (codes "x") (codes "y") ∷ []) (Line 2 Time)
  pub taken : tuples_from Report 1 100 (codes "1 x a y\nx\r\n3 y a w\n")
      ≡ tuples_with two_edges Whole
  pub told : reports_from 1 100 (codes "1 x a y\nx\r\n3 y a w\n") ≡ codes "line 2: time: x\n"
  pub several : reports_from 7 100 (codes "x\n# x\n\n2 y a z ?\n1 x")
      ≡ codes "line 7: time: x\nline 10: operation: 2 y a z ?\nline 11: fields 2: 1 x\n"
  pub long_ended : (line : List ℕ) → IsLine line → length line ≡ 1025 →
      tuples_from Stop 1 2000 (codes "1 x a y\n" ++ (line ++ line_feed ∷ codes "3 y a w"))
      ≡ tuples_with (inserted 1 (codes "x") (codes "y") ∷ []) (LongLine 2)
  pub long_taken : (line : List ℕ) → IsLine line → length line ≡ 1025 →
      tuples_from Report 1 2000 (codes "1 x a y\n" ++ (line ++ line_feed ∷ codes "3 y a w"))
      ≡ tuples_with two_edges Whole
  pub long_told : (line : List ℕ) → IsLine line → length line ≡ 1025 →
      reports_from 1 2000 (codes "1 x a y\n" ++ (line ++ line_feed ∷ codes "3 y a w"))
      ≡ codes "line 2: too long: " ++ (take 1024 line ++ codes "\n")
