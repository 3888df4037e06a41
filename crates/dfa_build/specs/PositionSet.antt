-- Sets of positions, as the construction keeps them. No public contract cites this file.
use Rattle.std.specs.Prelude.{ℕ, Bool, ◌==◌, List, slice_index_or, filter}
use Rattle.std.specs.Int.{bit_at}
use Rattle.std.specs.List.{range_with_len}
use Rattle.dfa_build.specs.declared.position_set.PositionSet.{PositionSet}

-- the position is a member of the set
unfoldable pub has : PositionSet → ℕ → Bool
has set position = bit_at set.bits position == 1

-- the next position is in the row of the position
unfoldable pub row_has : List PositionSet → ℕ → ℕ → Bool
row_has rows position next = has (slice_index_or rows position (record { bits = 0 })) next

-- the numbers below 64 that pass the test, rising
unfoldable pub numbers : (ℕ → Bool) → List ℕ
numbers test = filter test (range_with_len 0 64)
