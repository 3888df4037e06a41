-- The lines of a text.
use Rattle.std.specs.Prelude.{◌≡◌, ◌≢◌, ℕ, Bool, true, false, ◌==◌, ◌||◌, ◌⊎◌, not, List, []}
use Rattle.std.specs.Prelude.{◌∷◌, ◌++◌, map, flat_map, find, All, Option, Some, None}
use Rattle.std.specs.Prelude.{if◌then◌else◌}
use Rattle.std.specs.List.{list_all, onto_first, position_or_len}
use Rattle.std.specs.Str.Lines.{strip_carriage_return}

-- the byte that ends a line
abbrev pub line_feed : ℕ
line_feed = 10

-- the byte that may stand before it
abbrev pub carriage_return : ℕ
carriage_return = 13

-- the byte that begins a comment: '#'
abbrev pub comment_sign : ℕ
comment_sign = 35

-- no byte of the line is a line feed
abbrev pub IsLine : List ℕ → Type 0
IsLine line = All (λ byte. byte ≢ line_feed) line

-- the text is cut at each line feed, which belongs to no line; what stands after the last one is
-- a line where it isn't empty
unfoldable pub raw_lines : List ℕ → List (List ℕ)
raw_lines [] = []
raw_lines (byte ∷ text) =
    if byte == line_feed then [] ∷ raw_lines text else onto_first byte (raw_lines text)

-- the text is a line, its line feed and the rest; or it is one line without a line feed, and there
-- is no rest
pub record IsCut (text line rest : List ℕ) : Type 0 where
  pub whole : IsLine line
  pub joined : (text ≡ line ++ line_feed ∷ rest) ⊎ ((text ≡ line) × (rest ≡ []))

-- how many bytes stand before the first line feed, or in all where there is none
unfoldable pub line_length : List ℕ → ℕ
line_length text = position_or_len (λ byte. byte == line_feed) text

-- a line without the one carriage return at its end, if it has one
unfoldable pub without_return : List ℕ → List ℕ
without_return line = strip_carriage_return line

-- one carriage return at the end is dropped, and a line that ends otherwise is kept
pub record ReturnIsDropped (line : List ℕ) : Type 0 where
  pub dropped : without_return (line ++ carriage_return ∷ []) ≡ line
  pub kept : ((front : List ℕ) → line ≢ front ++ carriage_return ∷ []) → without_return line ≡ line

-- the lines of a text, each without the one carriage return at its end
abbrev pub lines : List ℕ → List (List ℕ)
lines text = map without_return (raw_lines text)

-- a space or a tab
abbrev pub is_blank : ℕ → Bool
is_blank byte = byte == 32 || byte == 9

-- a line that gives nothing: it has no byte that isn't blank
abbrev pub is_blank_line : List ℕ → Bool
is_blank_line line = list_all is_blank line

-- the first byte that isn't blank
abbrev pub first_solid : List ℕ → Option ℕ
first_solid line = find (λ byte. not (is_blank byte)) line

-- a line that gives nothing: its first byte that isn't blank is '#'
abbrev pub IsComment : List ℕ → Type 0
IsComment line = first_solid line ≡ Some comment_sign

-- there is a first byte, and it is '#'
abbrev pub begins_comment : Option ℕ → Bool
begins_comment None = false
begins_comment (Some byte) = byte == comment_sign

-- the same as a test
abbrev pub is_comment : List ℕ → Bool
is_comment line = begins_comment (first_solid line)

-- the text of these lines, each followed by a line feed
abbrev pub text_of : List (List ℕ) → List ℕ
text_of lines = flat_map (λ line. line ++ line_feed ∷ []) lines

-- the text is empty, or its last byte is a line feed
abbrev pub has_ended : List ℕ → Bool
has_ended [] = true
has_ended (byte ∷ []) = byte == line_feed
has_ended (byte ∷ next ∷ text) = has_ended (next ∷ text)

-- the lines hold no line feed, and each followed by one they are the text, or the text with the one
-- that its end lacks
pub record AreLinesOf (text : List ℕ) (lines : List (List ℕ)) : Type 0 where
  pub whole : All IsLine lines
  pub joined : text_of lines ≡ (if has_ended text then text else text ++ line_feed ∷ [])

-- the raw lines of every text are the text
abbrev pub LinesAreTheText : Type 0
LinesAreTheText = (text : List ℕ) → AreLinesOf text (raw_lines text)
