-- What the definitions are meant to say, as laws.
use Rattle.std.specs.Prelude.{◌≡◌, ℕ, ◌+◌, ◌<◌, ◌≤◌, ◌↔◌, List, [], ◌∷◌, ◌++◌, length, take}
use Rattle.std.specs.Prelude.{Option, option_to_list, Ok, Err, slice_get, Some}
use Rattle.std.specs.List.{flat_map}
use Rattle.text_parts.specs.Lines.{raw_lines, without_return}
use Rattle.text_parts.specs.EndedLines.{ended_lines, open_line}
use Rattle.text_items.specs.declared.ends.TextEnd.{TextEnd}
use Rattle.text_items.specs.declared.ends.TextEnd.TheVariants.{Whole, Line}
use Rattle.text_items.specs.Reading.{Reading, raw_gives}
use Rattle.text_items.specs.Items.{items_with, items_of_lines, cut_end, cut_items, text_items}

-- how the lines that follow those that give something or nothing end a reading: at once, or with
-- one that ends it
abbrev pub IsEndOf : {A E : Type 0} → Reading A E → List (List ℕ) → ℕ → TextEnd E → TextEnd E
    → Type 0
IsEndOf reading [] number last end = end ≡ last
IsEndOf {A} {E} reading (line ∷ lines) number last end =
    (fault : E) × (raw_gives reading number line ≡ Err fault) × (end ≡ Line fault)

-- lines that give these items and end so, by their parts: some that don't end the reading, and then
-- the end; where no line ends it that is the last one
pub record AreReadByParts {A E : Type 0} (reading : Reading A E) (lines : List (List ℕ))
    (last : TextEnd E) (items : List A) (end : TextEnd E) : Type 0 where
  pub good : List (List ℕ)
  pub others : List (List ℕ)
  pub given : List (Option A)
  pub cut : lines ≡ good ++ others
  pub as_many : length given ≡ length good
  pub read : (place : ℕ) (line : List ℕ) (found : Option A) → slice_get good place ≡ Some line
      → slice_get given place ≡ Some found → raw_gives reading (place + 1) line ≡ Ok found
  pub kept : items ≡ flat_map option_to_list given
  pub ends : IsEndOf reading others (length good + 1) last end

-- the items of a text are those of its lines, where it has fewer bytes than the limit; else those
-- of the lines with a line feed among the first bytes
pub record IsTextByParts {A E : Type 0} (reading : Reading A E) (limit : ℕ) (text : List ℕ)
    (items : List A) (end : TextEnd E) : Type 0 where
  pub within : length text < limit →
      (text_items reading limit text ≡ items_with items end)
      ↔ AreReadByParts reading (raw_lines text) Whole items end
  pub beyond : limit ≤ length text →
      let front = take limit text in
      let lines = ended_lines front in
      (text_items reading limit text ≡ items_with items end)
      ↔ AreReadByParts reading lines (cut_end reading (length lines + 1) (open_line front)) items
      end

-- the items of every text are such
abbrev pub TextByParts : {A E : Type 0} → Reading A E → Type 0
TextByParts {A} {E} reading =
    (limit : ℕ) (text : List ℕ) (items : List A) (end : TextEnd E)
    → IsTextByParts reading limit text items end

-- a line of 1,024 bytes is read, and of one more the first 1,024 are; a text of one byte less than
-- the limit is read to its end, and one of so many is cut off
pub record LimitExamples {A E : Type 0} (reading : Reading A E) : Type 0 where
  pub longest_line : (number : ℕ) (line : List ℕ) → length line ≡ 1024 →
      raw_gives reading number line ≡ reading.line number (without_return line)
  pub longer_line : (number : ℕ) (line : List ℕ) → length line ≡ 1025 →
      raw_gives reading number line ≡ reading.long number (take 1024 line)
  pub longest_text : (limit : ℕ) (text : List ℕ) → length text + 1 ≡ limit →
      text_items reading limit text ≡ items_of_lines reading (raw_lines text) 1 Whole
  pub longer_text : (limit : ℕ) (text : List ℕ) → length text ≡ limit →
      text_items reading limit text ≡ cut_items reading 1 text
