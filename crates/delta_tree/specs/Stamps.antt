-- The number of puts on a tree.
use Rattle.std.specs.Prelude.{ℕ, ◌+◌, Option, Some, None}

-- one more than before, and none at first
abbrev pub one_more : Option ℕ → ℕ
one_more None = 0
one_more (Some before) = before + 1
