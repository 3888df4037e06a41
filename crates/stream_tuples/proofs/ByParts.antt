-- The tuples of a stream, by its parts.
use Rattle.std.proofs.Common.{◌≡◌, ℕ, ◌+◌, ◌<◌, ◌≤◌, List, [], ◌∷◌, ◌++◌, length, take, map, Option}
use Rattle.std.proofs.Common.{Result, Ok, Err, refl, ap, sym, subst, ◌∙◌, arith, inl, inr, ◌⊎◌}
use Rattle.std.specs.Prelude.{◌↔◌, option_to_list}
use Rattle.std.specs.List.{All, flat_map}
use Rattle.std.proofs.lemmas.Bool.{cases_lt}
use Rattle.std.proofs.lemmas.List.Elements.{All-nil, All-cons, All-head, All-tail}
use Rattle.text_parts.specs.Lines.{raw_lines, without_return}
use Rattle.text_parts.specs.EndedLines.{ended_lines, open_line}
use Rattle.rpq_base.specs.declared.data.Tuple.{Tuple}
use Rattle.tuple_text.specs.declared.read.BadLine.{BadLine}
use Rattle.tuple_text.specs.Reading.{line_tuple}
use Rattle.stream_tuples.specs.declared.ends.StreamEnd.{StreamEnd}
use Rattle.stream_tuples.specs.declared.ends.StreamEnd.TheVariants.{Whole, Line, LongLine}
use Rattle.stream_tuples.specs.declared.faults.FaultPolicy.TheVariants.{Stop}
use Rattle.stream_tuples.specs.Limits.{line_limit, byte_limit}
use Rattle.stream_tuples.specs.StreamText.{StreamTuples, tuples_with, tuples_before, numbered}
use Rattle.stream_tuples.specs.StreamText.{tuples_of_lines, cut_end, tuples_from}
use Rattle.stream_tuples.specs.Laws.{IsEndOf, AreReadByParts, StreamByParts}
use Rattle.stream_tuples.proofs.StreamTexts.{first_gives, no_lines, short_gives, long_gives}
use Rattle.stream_tuples.proofs.StreamTexts.{good_first, within, beyond, cut_is}

-- the parts of lines the first of which has this number
record ArePartsFrom (number : ℕ) (lines : List (List ℕ)) (last : StreamEnd) (tuples : List Tuple)
    (end : StreamEnd) : Type 0 where
  good : List (List ℕ)
  others : List (List ℕ)
  given : List (Option Tuple)
  cut : lines ≡ good ++ others
  short : All (λ line. length line ≤ line_limit) good
  read : map (λ line. line_tuple (without_return line)) good ≡ map (λ g. Ok g) given
  kept : tuples ≡ flat_map option_to_list given
  ends : IsEndOf others (number + length good) last end

-- the parts of lines that end at once
parts_end : (number : ℕ) (lines : List (List ℕ)) (last end : StreamEnd) (tuples : List Tuple)
    → tuples ≡ [] → IsEndOf lines number last end → ArePartsFrom number lines last tuples end
parts_end number lines last end tuples none ends =
    let here : number ≡ number + length {A = List ℕ} [] = omega arith in
    record {
      good = [];
      others = lines;
      given = [];
      cut = refl;
      short = All-nil (λ line. length line ≤ line_limit);
      read = refl;
      kept = none;
      ends = subst (λ n. IsEndOf lines n last end) here ends;
    }

no_tuples : (tuples : List Tuple) (first end : StreamEnd)
    → tuples_with [] first ≡ tuples_with tuples end → tuples ≡ []
no_tuples tuples first end is = sym (ap (λ (ts : StreamTuples). ts.tuples) is)

same_end : (tuples : List Tuple) (first end : StreamEnd) → tuples_with [] first ≡ tuples_with tuples end → end ≡ first
same_end tuples first end is = sym (ap (λ (ts : StreamTuples). ts.end) is)

to_parts : (lines : List (List ℕ)) (number : ℕ) (last : StreamEnd) (tuples : List Tuple)
    (end : StreamEnd) → tuples_of_lines Stop lines number last ≡ tuples_with tuples end
    → ArePartsFrom number lines last tuples end
to_parts [] number last tuples end is =
    let e = sym (no_lines Stop number last) ∙ is in
    parts_end number [] last end tuples (no_tuples tuples last end e) (same_end tuples last end e)
to_parts (line ∷ lines) number last tuples end is =
    let rest = tuples_of_lines Stop lines (number + 1) last in
    by (cases_lt line_limit (length line)) (line_tuple (without_return line)) refl
    (to_parts lines (number + 1) last rest.tuples rest.end refl)
  where
    by : (line_limit < length line) ⊎ (length line ≤ line_limit)
        → (read : Result (Option Tuple) BadLine) → line_tuple (without_return line) ≡ read
        → ArePartsFrom (number + 1) lines last (tuples_of_lines Stop lines (number + 1) last).tuples
        (tuples_of_lines Stop lines (number + 1) last).end → ArePartsFrom number (line ∷ lines) last tuples end
    by (inl long) read gives later =
        let e = sym (first_gives Stop line lines number last (Err (LongLine number)) (long_gives Stop number line long)) ∙ is in
        parts_end number (line ∷ lines) last end tuples (no_tuples tuples (LongLine number) end e)
        (inl (long, same_end tuples (LongLine number) end e))
    by (inr short) (Err fault) gives later =
        let e = sym (first_gives Stop line lines number last (Err (Line number fault))
        (short_gives Stop number line short ∙ ap (numbered Stop number (without_return line)) gives)) ∙ is in
        parts_end number (line ∷ lines) last end tuples (no_tuples tuples (Line number fault) end e)
        (inr (short, fault, gives, same_end tuples (Line number fault) end e))
    by (inr short) (Ok found) gives later =
        let rest = tuples_of_lines Stop lines (number + 1) last in
        let e = sym (good_first Stop line lines number last found short gives) ∙ is in
        let there : (number + 1) + length later.good ≡ number + length (line ∷ later.good) = omega arith in
        let ends : rest.end ≡ end = ap (λ (ts : StreamTuples). ts.end) e in
        record {
          good = line ∷ later.good;
          others = later.others;
          given = found ∷ later.given;
          cut = ap (λ (ls : List (List ℕ)). line ∷ ls) later.cut;
          short = All-cons (λ l. length l ≤ line_limit) line later.good short later.short;
          read = rw (gives, later.read) refl;
          kept = sym (ap (λ (ts : StreamTuples). ts.tuples) e)
              ∙ ap (λ (ts : List Tuple). option_to_list found ++ ts) later.kept;
          ends = subst (λ n. IsEndOf later.others n last end) there
              (subst (λ (x : StreamEnd). IsEndOf later.others ((number + 1) + length later.good)
              last x) ends later.ends);
        }

from_end : (others : List (List ℕ)) (number : ℕ) (last end : StreamEnd)
    → IsEndOf others number last end → tuples_of_lines Stop others number last ≡ tuples_with [] end
from_end [] number last end ends = no_lines Stop number last ∙ ap (λ (x : StreamEnd). tuples_with [] x) (sym ends)
from_end (line ∷ lines) number last end (inl long) =
    first_gives Stop line lines number last (Err (LongLine number)) (long_gives Stop number line long.0)
    ∙ ap (λ (x : StreamEnd). tuples_with [] x) (sym long.1)
from_end (line ∷ lines) number last end (inr bad) =
    first_gives Stop line lines number last (Err (Line number bad.1)) (short_gives Stop number line bad.0
    ∙ ap (numbered Stop number (without_return line)) bad.2) ∙ ap (λ (x : StreamEnd). tuples_with [] x) (sym bad.3)

from_parts : (good others : List (List ℕ)) (given : List (Option Tuple)) (number : ℕ)
    (last end : StreamEnd) → All (λ line. length line ≤ line_limit) good
    → map (λ line. line_tuple (without_return line)) good ≡ map (λ g. Ok g) given
    → IsEndOf others (number + length good) last end
    → tuples_of_lines Stop (good ++ others) number last ≡ tuples_with (flat_map option_to_list given) end
from_parts [] others [] number last end short read ends =
    let here : number + length {A = List ℕ} [] ≡ number = omega arith in
    from_end others number last end (subst (λ n. IsEndOf others n last end) here ends)
from_parts [] others (found ∷ given) number last end short read ends = absurd (cc read)
from_parts (line ∷ good) others [] number last end short read ends = absurd (cc read)
from_parts (line ∷ good) others (found ∷ given) number last end short read ends =
    let first : line_tuple (without_return line) ≡ Ok found = cc read in
    let later : map (λ l. line_tuple (without_return l)) good ≡ map (λ g. Ok g) given = cc read in
    let there : number + length (line ∷ good) ≡ (number + 1) + length good = omega arith in
    good_first Stop line (good ++ others) number last found
    (All-head (λ l. length l ≤ line_limit) line good short) first
    ∙ ap (λ (ts : StreamTuples). tuples_before (option_to_list found) ts)
    (from_parts good others given (number + 1) last end
    (All-tail (λ l. length l ≤ line_limit) line good short) later
    (subst (λ n. IsEndOf others n last end) there ends))

by_lines : (lines : List (List ℕ)) (last : StreamEnd) (tuples : List Tuple) (end : StreamEnd)
    → (tuples_of_lines Stop lines 1 last ≡ tuples_with tuples end) ↔ AreReadByParts lines last tuples end
by_lines lines last tuples end = (
  λ is.
      let parts = to_parts lines 1 last tuples end is in
      let there : 1 + length parts.good ≡ length parts.good + 1 = omega arith in
      record {
        good = parts.good;
        others = parts.others;
        given = parts.given;
        cut = parts.cut;
        short = parts.short;
        read = parts.read;
        kept = parts.kept;
        ends = subst (λ n. IsEndOf parts.others n last end) there parts.ends;
      },
  λ parts.
      let there : length parts.good + 1 ≡ 1 + length parts.good = omega arith in
      ap (λ (ls : List (List ℕ)). tuples_of_lines Stop ls 1 last) parts.cut
      ∙ (from_parts parts.good parts.others parts.given 1 last end parts.short parts.read
      (subst (λ n. IsEndOf parts.others n last end) there parts.ends)
      ∙ ap (λ (ts : List Tuple). tuples_with ts end) (sym parts.kept)),
)

-- what is equivalent to a fact of a list of tuples is to that of an equal one
of_equal : (tuples others : StreamTuples) (end : StreamTuples) (P : Type 0) → tuples ≡ others
    → (others ≡ end) ↔ P → (tuples ≡ end) ↔ P
of_equal tuples others end P same both = (λ is. both.0 (sym same ∙ is), λ p. same ∙ both.1 p)

pub by_parts : StreamByParts
by_parts text tuples end = record {
  within = λ short. of_equal (tuples_from Stop 1 byte_limit text)
      (tuples_of_lines Stop (raw_lines text) 1 Whole) (tuples_with tuples end)
      (AreReadByParts (raw_lines text) Whole tuples end)
      (within Stop text 1 byte_limit short) (by_lines (raw_lines text) Whole tuples end);
  beyond = λ long.
      let front = take byte_limit text in
      let there : 1 + length (ended_lines front) ≡ length (ended_lines front) + 1 = omega arith in
      let last = cut_end Stop (length (ended_lines front) + 1) (open_line front) in
      of_equal (tuples_from Stop 1 byte_limit text) (tuples_of_lines Stop (ended_lines front) 1 last)
      (tuples_with tuples end) (AreReadByParts (ended_lines front) last tuples end)
      (beyond Stop text 1 byte_limit long ∙ (cut_is Stop front 1
      ∙ ap (λ n. tuples_of_lines Stop (ended_lines front) 1 (cut_end Stop n (open_line front))) there))
      (by_lines (ended_lines front) last tuples end);
}
