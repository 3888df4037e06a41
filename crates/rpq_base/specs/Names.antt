-- Names of vertices, labels and queries.
use Rattle.std.specs.Prelude.{◌≡◌, ℕ, ◌-◌, ◌≤◌, nat_le, Bool, not, ◌&&◌, ◌||◌, IsTrue}
use Rattle.std.specs.Prelude.{List, length, Some}
use Rattle.std.specs.List.{list_all, position}
use Rattle.rpq_base.specs.declared.name.NameFault.{NameFault}
use Rattle.rpq_base.specs.declared.name.NameFault.TheVariants.{Length, Byte, Memory}

-- a byte that may stand in a name: 0x21 to 0x7E, or 0x80 and above
abbrev pub is_name_byte : ℕ → Bool
is_name_byte byte = (nat_le 0x21 byte && nat_le byte 0x7E) || nat_le 0x80 byte

-- a name has 1 to 255 bytes
abbrev pub has_name_length : List ℕ → Bool
has_name_length bytes = nat_le 1 (length bytes) && nat_le (length bytes) 255

-- a name: 1 to 255 bytes, each of which may stand in one
unfoldable pub is_name : List ℕ → Bool
is_name bytes = has_name_length bytes && list_all is_name_byte bytes

-- the bytes are a name
abbrev pub IsName : List ℕ → Type 0
IsName bytes = IsTrue (is_name bytes)

-- why the bytes are no name: their number, or else the place, from 1, of the first byte that may
-- not stand in one
abbrev pub IsNameFault : NameFault → List ℕ → Type 0
IsNameFault (Length n) bytes = (n ≡ length bytes) × IsTrue (not (has_name_length bytes))
IsNameFault (Byte at) bytes =
    IsTrue (has_name_length bytes) × (1 ≤ at)
    × (position (λ byte. not (is_name_byte byte)) bytes ≡ Some (at - 1))
IsNameFault Memory bytes = Unit {0}
