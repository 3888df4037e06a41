-- How much is taken of a line and of a text.
use Rattle.std.specs.Prelude.{ℕ, ◌^◌}

-- the most bytes of a line before its line feed, its carriage return counted
abbrev pub line_limit : ℕ
line_limit = 1024

-- the greatest number of bytes that a text can be limited to
abbrev pub most_bytes : ℕ
most_bytes = 2 ^ 62
