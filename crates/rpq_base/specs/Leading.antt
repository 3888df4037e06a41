-- The beginnings of names as numbers.
use Rattle.std.specs.Prelude.{ℕ, zero, suc, ◌+◌, ◌*◌, ◌<◌, List, slice_index}

-- the first bytes of a name, so many, as the digits of a number to the base 256, the first byte the
-- most significant, and 0 where the name is shorter
abbrev pub leading : ℕ → List ℕ → ℕ
leading zero name = 0
leading (suc place) name = leading place name * 256 + slice_index name place

-- all elements are bytes
abbrev pub AreBytes : List ℕ → Type 0
AreBytes bytes = (place : ℕ) → slice_index bytes place < 256
