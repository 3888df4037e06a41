-- What the definitions are meant to say, as laws.
use Rattle.std.specs.Prelude.{◌≡◌, ℕ, ◌+◌, ◌-◌, ◌^◌, ◌<◌, ◌≤◌, ◌⊎◌, ◌↔◌, List, [], ◌∷◌, ◌++◌}
use Rattle.std.specs.Prelude.{length, take, map, All, Option, option_to_list, Ok, Err}
use Rattle.std.specs.List.{flat_map}
use Rattle.text_parts.specs.Lines.{raw_lines, without_return}
use Rattle.text_parts.specs.EndedLines.{ended_lines, open_line}
use Rattle.rpq_base.specs.declared.data.Tuple.{Tuple}
use Rattle.tuple_text.specs.declared.read.BadLine.{BadLine}
use Rattle.tuple_text.specs.Reading.{line_tuple}
use Rattle.stream_tuples.specs.declared.ends.StreamEnd.{StreamEnd}
use Rattle.stream_tuples.specs.declared.ends.StreamEnd.TheVariants.{Whole, Line, LongLine}
use Rattle.stream_tuples.specs.declared.faults.FaultPolicy.TheVariants.{Stop}
use Rattle.stream_tuples.specs.Limits.{line_limit, byte_limit, byte_limit_of}
use Rattle.stream_tuples.specs.StreamText.{tuples_with, numbered, line_gives, tuples_of_lines}
use Rattle.stream_tuples.specs.StreamText.{cut_end, cut_tuples, tuples_from, stream_tuples}

-- how the lines that follow the good ones end a stream: at once, with a line that is too long, or
-- with one that has a fault
abbrev pub IsEndOf : List (List ℕ) → ℕ → StreamEnd → StreamEnd → Type 0
IsEndOf [] number last end = end ≡ last
IsEndOf (line ∷ lines) number last end =
    ((line_limit < length line) × (end ≡ LongLine number))
    ⊎ ((length line ≤ line_limit) × (fault : BadLine)
    × (line_tuple (without_return line) ≡ Err fault) × (end ≡ Line number fault))

-- lines that give these tuples and end so, by their parts: some that are not too long and have no
-- fault, and then the end; where no line is faulty the end is the last one
pub record AreReadByParts (lines : List (List ℕ)) (last : StreamEnd) (tuples : List Tuple)
    (end : StreamEnd) : Type 0 where
  pub good : List (List ℕ)
  pub others : List (List ℕ)
  pub given : List (Option Tuple)
  pub cut : lines ≡ good ++ others
  pub short : All (λ line. length line ≤ line_limit) good
  pub read : map (λ line. line_tuple (without_return line)) good ≡ map Ok given
  pub kept : tuples ≡ flat_map option_to_list given
  pub ends : IsEndOf others (length good + 1) last end

-- the tuples of a stream are those of its lines, where it has fewer bytes than the limit; else
-- those of the lines with a line feed among the first bytes
pub record IsStreamByParts (text : List ℕ) (tuples : List Tuple) (end : StreamEnd) : Type 0 where
  pub within : length text < byte_limit →
      (stream_tuples Stop text ≡ tuples_with tuples end)
      ↔ AreReadByParts (raw_lines text) Whole tuples end
  pub beyond : byte_limit ≤ length text →
      let front = take byte_limit text in
      let lines = ended_lines front in
      (stream_tuples Stop text ≡ tuples_with tuples end)
      ↔ AreReadByParts lines (cut_end Stop (length lines + 1) (open_line front)) tuples end

-- the tuples of every stream are such
abbrev pub StreamByParts : Type 0
StreamByParts =
    (text : List ℕ) (tuples : List Tuple) (end : StreamEnd) → IsStreamByParts text tuples end

-- a line of 1,024 bytes is read, and one more is too many; a stream of 2^40 - 1 bytes is read to its
-- end, and one more is too many: then it is cut off. So it is in a history of at most 2^30 entries;
-- in one of more, a stream of 2^62 - 1 bytes is read to its end, and one more is too many
pub record LimitExamples : Type 0 where
  pub longest_line : (number : ℕ) (line : List ℕ) → length line ≡ 1024 →
      line_gives Stop number line ≡ numbered Stop number (without_return line) (line_tuple (without_return line))
  pub longer_line : (number : ℕ) (line : List ℕ) → length line ≡ 1025 →
      line_gives Stop number line ≡ Err (LongLine number)
  pub longest_stream : (text : List ℕ) → length text ≡ 2 ^ 40 - 1 →
      stream_tuples Stop text ≡ tuples_of_lines Stop (raw_lines text) 1 Whole
  pub longer_stream : (text : List ℕ) → length text ≡ 2 ^ 40 →
      stream_tuples Stop text ≡ cut_tuples Stop 1 text
  pub in_kept : (cap : ℕ) (text : List ℕ) → cap ≤ 2 ^ 30 →
      tuples_from Stop 1 (byte_limit_of cap) text ≡ stream_tuples Stop text
  pub longest_endless : (cap : ℕ) (text : List ℕ) → 2 ^ 30 < cap → length text ≡ 2 ^ 62 - 1 →
      tuples_from Stop 1 (byte_limit_of cap) text ≡ tuples_of_lines Stop (raw_lines text) 1 Whole
  pub longer_endless : (cap : ℕ) (text : List ℕ) → 2 ^ 30 < cap → length text ≡ 2 ^ 62 →
      tuples_from Stop 1 (byte_limit_of cap) text ≡ cut_tuples Stop 1 text
