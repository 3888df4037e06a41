-- The lines of a text that end with a line feed, and what stands after the last one.
use Rattle.std.specs.Prelude.{◌≡◌, ℕ, ◌-◌, ◌==◌, List, [], ◌++◌, length, take, slice_index_or, All}
use Rattle.std.specs.List.{slice_split}
use Rattle.text_parts.specs.Lines.{line_feed, IsLine, text_of}

-- a text, cut at each line feed
abbrev pub pieces : List ℕ → List (List ℕ)
pieces text = slice_split (λ byte. byte == line_feed) text

-- the lines of a text that end with a line feed
unfoldable pub ended_lines : List ℕ → List (List ℕ)
ended_lines text = take (length (pieces text) - 1) (pieces text)

-- what stands after the last line feed
unfoldable pub open_line : List ℕ → List ℕ
open_line text = slice_index_or (pieces text) (length (pieces text) - 1) []

-- no line has a line feed, and the lines with one each, and then the open line, are the text
pub record AreEndedLinesOf (text : List ℕ) : Type 0 where
  pub whole : All IsLine (ended_lines text)
  pub last : IsLine (open_line text)
  pub joined : text_of (ended_lines text) ++ open_line text ≡ text

-- the ended lines of every text, and then its open line, are the text
abbrev pub EndedLinesAreTheText : Type 0
EndedLinesAreTheText = (text : List ℕ) → AreEndedLinesOf text
