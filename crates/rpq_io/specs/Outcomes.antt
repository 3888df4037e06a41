-- Which of its outcomes a call of a reader of lines has.
use Rattle.std.specs.Prelude.{◌≡◌, ◌≢◌, ℕ, ◌<◌, ◌≤◌, Bool, true, List, [], length, ◌⊎◌}
use Rattle.text_parts.specs.Lines.{line_length}
use Rattle.rpq_io.specs.Reader.{CutsLine}

-- a line can be given of these bytes: the first line is no longer than may be, and is ended by a
-- line feed or by the end of the source
pub record AllowsLine (line_limit : ℕ) (is_at_end : Bool) (bytes : List ℕ) : Type 0 where
  pub fits : line_length bytes ≤ line_limit
  pub whole : (line_length bytes < length bytes) ⊎ ((is_at_end ≡ true) × (bytes ≢ []))

-- no line is cut but where one can be given: so where a line is too long, the stream is, or nothing
-- is left, that is answered
abbrev pub CutsOnlyLines : Type 0
CutsOnlyLines = (line_limit : ℕ) (is_at_end : Bool) (bytes rest line : List ℕ)
    → CutsLine line_limit is_at_end bytes rest line → AllowsLine line_limit is_at_end bytes
