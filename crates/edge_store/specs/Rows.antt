-- The rows of one side of a store.
use Rattle.std.specs.Prelude.{◌≡◌, ℕ, zero, suc, ◌<◌, ◌≤◌, ◌^◌, ◌&&◌, ◌==◌, cond, List, [], map, length}
use Rattle.std.specs.Prelude.{Option, None, Some, slice_index_or, sum_by}
use Rattle.edge_store.specs.Row.{RowValue, Takes}
use Rattle.edge_store.specs.declared.edge.EdgeId.{EdgeId}
use Rattle.edge_store.specs.declared.edge.HalfEdge.{HalfEdge}
use Rattle.edge_store.specs.Edges.{Edges, row, value_at, same_half, out_half, in_half}

-- the entries of each row
abbrev pub rows_of : List RowValue → List (List (HalfEdge × ℕ))
rows_of rows = map (λ (each : RowValue). each.entries) rows

-- the rows hold what they held
abbrev pub HasSameRows : List (List (HalfEdge × ℕ)) → List (List (HalfEdge × ℕ)) → Type 0
HasSameRows old new = (vertex : ℕ) → row new vertex ≡ row old vertex

-- the half edge has this value at the vertex now, or none, and all else stays
abbrev pub Writes : List (List (HalfEdge × ℕ)) → List (List (HalfEdge × ℕ)) → ℕ → HalfEdge →
    Option ℕ → Type 0
Writes old new vertex half value = (each : ℕ) (other : HalfEdge) →
    value_at new each other
    ≡ cond ((vertex == each) && same_half half other) value (value_at old each other)

-- ---- rows in the order in which they came, and for each vertex a slot

-- what stands for the row of a vertex that has none
abbrev pub no_row : RowValue
no_row = record { entries = []; room = 0 }

-- the place of the row of this number from 1; the number 0 is no row's
abbrev pub place_in : ℕ → Option ℕ
place_in zero = None
place_in (suc place) = Some place

-- the place of the row of the vertex, where it has one
abbrev pub place_of : List ℕ → ℕ → Option ℕ
place_of slots vertex = place_in (slice_index_or slots vertex 0)

-- the row at a place that may be there
abbrev pub row_at : List RowValue → Option ℕ → RowValue
row_at rows None = no_row
row_at rows (Some place) = slice_index_or rows place no_row

-- for each vertex its row
abbrev pub side : List ℕ → List RowValue → List RowValue
side slots rows = map (λ number. row_at rows (place_in number)) slots

-- the vertices hold by the new slots and rows what they held by the old ones
abbrev pub KeepsRows : List ℕ → List RowValue → List ℕ → List RowValue → Type 0
KeepsRows old_slots old_rows new_slots new_rows =
    HasSameRows (rows_of (side old_slots old_rows)) (rows_of (side new_slots new_rows))

-- each slot is for one of so many rows, and each row for one vertex
pub record IsSide (slots : List ℕ) (count : ℕ) : Type 0 where
  pub within : (vertex place : ℕ) → place_of slots vertex ≡ Some place → place < count
  pub once : (first second place : ℕ) → place_of slots first ≡ Some place →
      place_of slots second ≡ Some place → first ≡ second

-- one for the number of a row, and nothing for the number 0
abbrev pub owners_by : ℕ → ℕ
owners_by zero = 0
owners_by (suc place) = 1

-- how many vertices have a row
abbrev pub owners_in : List ℕ → ℕ
owners_in slots = sum_by owners_by slots

-- there are no more rows than vertices that have one, and fewer vertices than numbers of 32 bits,
-- so that each row has a number
pub record AreNumbered (slots : List ℕ) (count : ℕ) : Type 0 where
  pub owned : count ≤ owners_in slots
  pub short : length slots < 2 ^ 32

-- the row at this place is that of the vertex and has no edges
pub record IsBareAt (slots : List ℕ) (rows : List RowValue) (place vertex : ℕ) : Type 0 where
  pub there : place_of slots vertex ≡ Some place
  pub bare : (row_at rows (Some place)).entries ≡ []

-- the second vertex has the row of the first one, which has none any more; all others have theirs
abbrev pub GivesRow : List ℕ → List ℕ → ℕ → ℕ → Type 0
GivesRow old new from to = (each : ℕ) →
    place_of new each
    ≡ cond (to == each) (place_of old from) (cond (from == each) None (place_of old each))

-- the row of the vertex has room for one more edge
abbrev pub HasRoom : List RowValue → ℕ → Type 0
HasRoom rows vertex = 0 < (slice_index_or rows vertex no_row).room

-- the row of the vertex takes the edge with no more memory
abbrev pub TakesAt : List RowValue → ℕ → HalfEdge → Type 0
TakesAt rows vertex half = Takes (slice_index_or rows vertex no_row) half

-- ---- both sides

-- both sides have the same edges with the same values
abbrev pub Agree : List (List (HalfEdge × ℕ)) → List (List (HalfEdge × ℕ)) → Type 0
Agree outs ins = (edge : EdgeId) →
    value_at ins edge.to (in_half edge) ≡ value_at outs edge.from (out_half edge)

-- a store with these sides
abbrev pub sides : List (List (HalfEdge × ℕ)) → List (List (HalfEdge × ℕ)) → Edges
sides outs ins = record { outs = outs; ins = ins }
