-- The edges of one vertex, on one side.
use Rattle.std.specs.Prelude.{◌≡◌, ℕ, ◌-◌, ◌<◌, ◌≤◌, ◌⊎◌, true, cond, is_some, nat_lt, List, [], ◌++◌, length, Option, None, Some}
use Rattle.std.specs.Borrow.{Bor}
use Rattle.std.specs.List.{IsDistinct}
use Rattle.std.specs.Map.{keys_of, lookup}
use Rattle.edge_store.specs.declared.edge.HalfEdge.{HalfEdge}
use Rattle.edge_store.specs.Edges.{same_half}

-- the edges in the order of a walk, and for how many more there is room
pub record RowValue : Type 0 where
  pub entries : List (HalfEdge × ℕ)
  pub room : ℕ

-- the edges of a row that may be there
abbrev pub walk_of : Option (Bor RowValue) → List (HalfEdge × ℕ)
walk_of None = []
walk_of (Some row) = row.now.entries

-- the list is short, no edge stands at two places of it and the map, and none has a value above
-- the bound
pub record IsRow (few more : List (HalfEdge × ℕ)) (most : ℕ) : Type 0 where
  pub short : length few ≤ 16
  pub once : IsDistinct same_half (keys_of (few ++ more))
  pub below : (half : HalfEdge) (value : ℕ) →
      lookup (same_half half) (few ++ more) ≡ Some value → value ≤ most

-- the room of a row: that of its list until this has 16 edges, and then that of its map
abbrev pub room_of : List (HalfEdge × ℕ) → ℕ → ℕ → ℕ
room_of few capacity spare = cond (nat_lt (length few) 16) (capacity - length few) spare

-- the row has the edge, or room for it
abbrev pub Takes : RowValue → HalfEdge → Type 0
Takes row half = (is_some (lookup (same_half half) row.entries) ≡ true) ⊎ (0 < row.room)
