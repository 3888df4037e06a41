-- What some texts give by their lines' lengths.
use Rattle.std.proofs.Common.{◌≡◌, ◌<◌, ℕ, List, [], ◌∷◌, ◌++◌, length, Some, Ok, refl, ap, ◌∙◌}
use Rattle.std.proofs.Common.{arith, length-append}
use Rattle.std.specs.Prelude.{codes}
use Rattle.text_parts.specs.Lines.{IsLine, raw_lines, without_return}
use Rattle.text_parts.specs.EndedLines.{ended_lines, open_line}
use Rattle.text_parts.proofs.Cuts.{raw_lines_first}
use Rattle.text_items.specs.declared.ends.TextEnd.TheVariants.{Whole}
use Rattle.text_items.specs.Items.{TextItems, items_with, items_before, items_of_lines, cut_items}
use Rattle.text_items.specs.Items.{text_items, items_from}
use Rattle.text_items.specs.Examples.{lengths, ItemExamples}
use Rattle.text_items.proofs.Texts.{first_gives, within, long_line}

-- the line behind one that is too long
behind : items_of_lines lengths (raw_lines (codes "ab")) 2 Whole ≡ items_with (2 ∷ []) Whole
unfolding items_of_lines raw_lines without_return
behind = refl

long_then : (line : List ℕ) → IsLine line → length line ≡ 1025
    → text_items lengths 2000 (line ++ 10 ∷ codes "ab") ≡ items_with (0 ∷ 2 ∷ []) Whole
long_then line whole many =
    let text = line ++ 10 ∷ codes "ab" in
    let short : length text < 2000 = omega (arith, length-append line (10 ∷ codes "ab"), many) in
    within lengths text 1 2000 short
    ∙ (ap (λ ls. items_of_lines lengths ls 1 Whole) (raw_lines_first line (codes "ab") whole)
    ∙ (first_gives lengths line (raw_lines (codes "ab")) 1 Whole (Ok (Some 0))
    (long_line lengths 1 line (omega (arith, many)))
    ∙ ap (λ (ts : TextItems ℕ ℕ). items_before (0 ∷ []) ts) behind))

pub item_examples : ItemExamples
unfolding items_from items_of_lines cut_items raw_lines without_return ended_lines open_line
item_examples = record {
  all_lines = refl;
  ended = refl;
  long_line = long_then;
  cut_off = refl;
}
