-- The items of a text, and how its reading ends: they are those of the lines before the first that
-- ends it.
use Rattle.std.specs.Prelude.{ℕ, ◌+◌, nat_lt, nat_le, List, [], ◌∷◌, ◌++◌, length, take, Option}
use Rattle.std.specs.Prelude.{option_to_list, Result, Ok, Err, if◌then◌else◌}
use Rattle.text_parts.specs.Lines.{raw_lines}
use Rattle.text_parts.specs.EndedLines.{ended_lines, open_line}
use Rattle.text_items.specs.declared.ends.TextEnd.{TextEnd}
use Rattle.text_items.specs.declared.ends.TextEnd.TheVariants.{Whole, LongText, Line}
use Rattle.text_items.specs.Limits.{line_limit}
use Rattle.text_items.specs.Reading.{Reading, raw_gives}

-- the items of a text, and how its reading ends
pub record TextItems (A E : Type 0) : Type 0 where
  pub items : List A
  pub end : TextEnd E

-- these items, and this end
abbrev pub items_with : {A E : Type 0} → List A → TextEnd E → TextItems A E
items_with items end = record { items = items; end = end }

-- these items, and then those of the rest
abbrev pub items_before : {A E : Type 0} → List A → TextItems A E → TextItems A E
items_before items rest = items_with (items ++ rest.items) rest.end

-- what a line gives, and then the rest, unless it ends the reading
abbrev pub line_before : {A E : Type 0} → Result (Option A) E → TextItems A E → TextItems A E
line_before (Ok found) rest = items_before (option_to_list found) rest
line_before (Err fault) rest = items_with [] (Line fault)

-- the items of raw lines up to the first that ends the reading; the first line has this number, and
-- this is the end where none does
unfoldable pub items_of_lines : {A E : Type 0} → Reading A E → List (List ℕ) → ℕ → TextEnd E
    → TextItems A E
items_of_lines reading [] number end = items_with [] end
items_of_lines reading (line ∷ lines) number end =
    line_before (raw_gives reading number line) (items_of_lines reading lines (number + 1) end)

-- the end of a text with too many bytes, behind a line that is cut off and gives this
abbrev pub long_end : {A E : Type 0} → Result (Option A) E → TextEnd E
long_end (Ok found) = LongText
long_end (Err fault) = Line fault

-- the end of a text with too many bytes whose last line, which has this number, is cut off like
-- this: that line ends it only if it is too long already
abbrev pub cut_end : {A E : Type 0} → Reading A E → ℕ → List ℕ → TextEnd E
cut_end reading number line =
    if nat_le (length line) line_limit
    then LongText else long_end (reading.long number (take line_limit line))

-- the items of a text that is cut off: those of its lines that end with a line feed
unfoldable pub cut_items : {A E : Type 0} → Reading A E → ℕ → List ℕ → TextItems A E
cut_items reading number text =
    items_of_lines reading (ended_lines text) number
    (cut_end reading (number + length (ended_lines text)) (open_line text))

-- the items of a text whose first line has this number, and which is to have fewer bytes than the
-- limit; where it hasn't, so many count
unfoldable pub items_from : {A E : Type 0} → Reading A E → ℕ → ℕ → List ℕ → TextItems A E
items_from reading number limit text =
    if nat_lt (length text) limit
    then items_of_lines reading (raw_lines text) number Whole
    else cut_items reading number (take limit text)

-- the items of a text that is to have fewer bytes than the limit, and how its reading ends
abbrev pub text_items : {A E : Type 0} → Reading A E → ℕ → List ℕ → TextItems A E
text_items reading limit text = items_from reading 1 limit text
