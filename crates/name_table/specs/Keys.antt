-- Sort keys: the beginnings of names as numbers.
use Rattle.std.specs.Prelude.{ℕ, List}
use Rattle.rpq_base.specs.Leading.{leading}
-- all elements are bytes
pub use Rattle.rpq_base.specs.Leading.{AreBytes}

-- the sort key of a name: its first 16 bytes
unfoldable pub sort_key : List ℕ → ℕ
sort_key name = leading 16 name

-- the beginning of a name: its first eight bytes
unfoldable pub beginning : List ℕ → ℕ
beginning name = leading 8 name
