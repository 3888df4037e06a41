-- A reading, and what some texts give by it.
use Rattle.std.specs.Prelude.{◌≡◌, ℕ, ◌==◌, List, [], ◌∷◌, ◌++◌, length, None, Some, Option}
use Rattle.std.specs.Prelude.{Result, Ok, Err, codes, if◌then◌else◌}
use Rattle.text_parts.specs.Lines.{line_feed, IsLine}
use Rattle.text_items.specs.declared.ends.TextEnd.TheVariants.{Whole, LongText, Line}
use Rattle.text_items.specs.Reading.{Reading}
use Rattle.text_items.specs.Items.{items_with, text_items}

-- an empty line gives nothing, one of a single byte ends the reading, and any other its length
abbrev pub of_length : ℕ → ℕ → Result (Option ℕ) ℕ
of_length number bytes =
    if bytes == 0 then Ok None else (if bytes == 1 then Err number else Ok (Some bytes))

-- lines are read by their lengths; a line that is too long gives 0
abbrev pub lengths : Reading ℕ ℕ
lengths = record {
  line = λ number line. of_length number (length line);
  long = λ number front. Ok (Some 0);
}

-- an empty line gives nothing; a line ends the reading; a line that is too long is one item, and the
-- reading goes on behind it; a text of too many bytes is cut off
pub record ItemExamples : Type 0 where
  pub all_lines : text_items lengths 100 (codes "ab\n\nabc") ≡ items_with (2 ∷ 3 ∷ []) Whole
  pub ended : text_items lengths 100 (codes "ab\nx\nabc\n") ≡ items_with (2 ∷ []) (Line 2)
  pub long_line : (line : List ℕ) → IsLine line → length line ≡ 1025 →
      text_items lengths 2000 (line ++ line_feed ∷ codes "ab") ≡ items_with (0 ∷ 2 ∷ []) Whole
  pub cut_off : text_items lengths 5 (codes "ab\nabc") ≡ items_with (2 ∷ []) LongText
