-- How much is taken of a line and of a stream.
use Rattle.std.specs.Prelude.{ℕ, ◌^◌, nat_le, if◌then◌else◌}
pub use Rattle.text_items.specs.Limits.{line_limit}

-- a stream has fewer bytes than this, where the history keeps all its entries
abbrev pub byte_limit : ℕ
byte_limit = 2 ^ 40

-- and than this where it doesn't
abbrev pub endless_byte_limit : ℕ
endless_byte_limit = 2 ^ 62

-- a stream has fewer bytes than this, where the history has at most so many entries: one of more
-- than 2^30 doesn't keep them all
unfoldable pub byte_limit_of : ℕ → ℕ
byte_limit_of cap = if nat_le cap (2 ^ 30) then byte_limit else endless_byte_limit
