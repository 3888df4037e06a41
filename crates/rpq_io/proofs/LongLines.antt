-- A text whose first line is longer than may be.
use Rattle.std.proofs.Common.{ℕ, ◌+◌, ◌<◌, ◌≤◌, List, [], ◌++◌, length, take, drop, ◌⊎◌, inl, inr}
use Rattle.std.proofs.Common.{ap, ◌∙◌, subst, arith, length-take-le}
use Rattle.std.proofs.lemmas.Bool.{cases_lt}
use Rattle.std.proofs.lemmas.List.{take_all}
use Rattle.text_parts.specs.Lines.{IsLine, raw_lines, line_length}
use Rattle.text_parts.proofs.Cuts.{raw_lines_first, raw_lines_only}
use Rattle.text_parts.proofs.LineLengths.{line_length_within, line_length_grows, first_line_whole}
use Rattle.text_parts.proofs.LineLengths.{first_line_cut}
use Rattle.rpq_io.specs.Reader.{HasLongLine}

-- a text whose first line is longer than may be
long_first_line : (line_limit : ℕ) (text : List ℕ) → line_limit < line_length text
    → HasLongLine line_limit text
long_first_line line_limit text long = by (cases_lt (line_length text) (length text))
  where
    by : (line_length text < length text) ⊎ (length text ≤ line_length text)
        → HasLongLine line_limit text
    by (inl within) = record {
      raw = take (line_length text) text;
      others = raw_lines (drop (line_length text + 1) text);
      first = ap raw_lines (first_line_cut text within)
          ∙ raw_lines_first (take (line_length text) text) (drop (line_length text + 1) text)
          (first_line_whole text);
      long = omega (arith, length-take-le (line_length text) text (omega arith));
    }
    by (inr all) = record {
      raw = text;
      others = [];
      first = raw_lines_only text (subst IsLine (take_all (line_length text) text all)
          (first_line_whole text))
          (omega (arith, line_length_within text));
      long = omega (arith, line_length_within text);
    }

-- a first line that is longer than may be stays so where more stands behind it
pub long_line : (bytes after : List ℕ) (line_limit : ℕ) → line_limit < line_length bytes
    → HasLongLine line_limit (bytes ++ after)
long_line bytes after line_limit long =
    long_first_line line_limit (bytes ++ after) (omega (arith, line_length_grows bytes after))
