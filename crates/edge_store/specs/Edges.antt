-- A store of edges as contracts see it: a finite map from edges to values, and the order in which
-- a walk gives the edges of a vertex.
use Rattle.std.specs.Prelude.{◌≡◌, ℕ, ◌+◌, ◌^◌, ◌<◌, ◌≤◌, Bool, ◌&&◌, ◌==◌, cond, max, nat_lt, List, [], All, Option, None, Some, ◌↔◌, Contains, slice_get, slice_index_or}
use Rattle.std.specs.List.{IsDistinct}
use Rattle.std.specs.Map.{lookup, keys_of}
use Rattle.edge_store.specs.declared.edge.EdgeId.{EdgeId}
use Rattle.edge_store.specs.declared.edge.HalfEdge.{HalfEdge}
use Rattle.edge_store.specs.declared.edge.Out.{Out}
use Rattle.edge_store.specs.declared.edge.In.{In}

-- the edges with their values, for each vertex those that leave it and those that end at it
pub record Edges : Type 0 where
  pub outs : List (List (HalfEdge × ℕ))
  pub ins : List (List (HalfEdge × ℕ))

-- ---- edges and their halves

-- the edge as the vertex that it leaves sees it
abbrev pub out_half : EdgeId → HalfEdge
out_half edge = record { label = edge.label; far = edge.to }

-- the edge as the vertex at which it ends sees it
abbrev pub in_half : EdgeId → HalfEdge
in_half edge = record { label = edge.label; far = edge.from }

-- the edge that leaves the vertex
abbrev pub leaving : ℕ → HalfEdge → EdgeId
leaving vertex half = record { from = vertex; label = half.label; to = half.far }

-- the edge that ends at the vertex
abbrev pub ending : ℕ → HalfEdge → EdgeId
ending vertex half = record { from = half.far; label = half.label; to = vertex }

-- equal halves
abbrev pub same_half : HalfEdge → HalfEdge → Bool
same_half first second = (first.label == second.label) && (first.far == second.far)

-- equal edges
abbrev pub same_edge : EdgeId → EdgeId → Bool
same_edge first second = (first.from == second.from) && same_half (out_half first) (out_half second)

-- both vertices are below the greatest number of 32 bits
abbrev pub JoinsSmall : EdgeId → Type 0
JoinsSmall edge = (edge.from + 1 < 2 ^ 32) × (edge.to + 1 < 2 ^ 32)

-- ---- the map

-- the row of a vertex; a vertex without a row has no edges
abbrev pub row : List (List (HalfEdge × ℕ)) → ℕ → List (HalfEdge × ℕ)
row rows vertex = slice_index_or rows vertex []

-- the value in the row of a vertex
abbrev pub value_at : List (List (HalfEdge × ℕ)) → ℕ → HalfEdge → Option ℕ
value_at rows vertex half = lookup (same_half half) (row rows vertex)

-- the value of an edge, or none where the store hasn't got it
abbrev pub value_of : Edges → EdgeId → Option ℕ
value_of store edge = value_at store.outs edge.from (out_half edge)

-- no edge has a value
abbrev pub IsEmpty : Edges → Type 0
IsEmpty store = (edge : EdgeId) → value_of store edge ≡ None

-- each edge has the value that it had
abbrev pub HasSameValues : Edges → Edges → Type 0
HasSameValues old new = (edge : EdgeId) → value_of new edge ≡ value_of old edge

-- the edge has this value now, or none, and each other edge the value that it had
abbrev pub Updates : Edges → Edges → EdgeId → Option ℕ → Type 0
Updates old new edge value =
    (each : EdgeId) → value_of new each ≡ cond (same_edge edge each) value (value_of old each)

-- the greater of a value that may be there and another
abbrev pub raised : Option ℕ → ℕ → ℕ
raised None value = value
raised (Some before) value = max before value

-- a value that is above the clock, else none
abbrev pub above : ℕ → Option ℕ → Option ℕ
above now None = None
above now (Some value) = cond (nat_lt now value) (Some value) None

-- the edges whose value is at most the clock are gone, and the others as they were
abbrev pub Expires : Edges → Edges → ℕ → Type 0
Expires old new now = (edge : EdgeId) → value_of new edge ≡ above now (value_of old edge)

-- ---- walks

-- the edges that leave a vertex and those that end at it, each as a half edge with its value, in
-- the order of the walk
abbrev pub outs_of : Edges → ℕ → List (HalfEdge × ℕ)
outs_of store vertex = row store.outs vertex

abbrev pub ins_of : Edges → ℕ → List (HalfEdge × ℕ)
ins_of store vertex = row store.ins vertex

-- the half edge and the value that a walk gives
abbrev pub out_entry : Out → HalfEdge × ℕ
out_entry out = (record { label = out.label; far = out.to }, out.value)

abbrev pub in_entry : In → HalfEdge × ℕ
in_entry edge = (record { label = edge.label; far = edge.from }, edge.value)

-- no edge of a walk has a value above the bound
abbrev pub AreAtMost : ℕ → List (HalfEdge × ℕ) → Type 0
AreAtMost most entries = All (λ (entry : HalfEdge × ℕ). entry.1 ≤ most) entries

-- no edge from the one place of a walk to before the other has a value above the number
abbrev pub AreAtMostWithin : ℕ → List (HalfEdge × ℕ) → ℕ → ℕ → Type 0
AreAtMostWithin number entries from to =
    (place : ℕ) (entry : HalfEdge × ℕ) → from ≤ place → place < to →
    slice_get entries place ≡ Some entry → entry.1 ≤ number

-- the walk gives exactly the edges that leave the vertex, with their values, each at one place
pub record GivesOuts (store : Edges) (vertex : ℕ) : Type 0 where
  pub exact : (half : HalfEdge) (value : ℕ) →
      Contains (outs_of store vertex) (half, value)
      ↔ (value_of store (leaving vertex half) ≡ Some value)
  pub once : IsDistinct same_half (keys_of (outs_of store vertex))

-- the walk gives exactly the edges that end at the vertex, with their values, each at one place
pub record GivesIns (store : Edges) (vertex : ℕ) : Type 0 where
  pub exact : (half : HalfEdge) (value : ℕ) →
      Contains (ins_of store vertex) (half, value)
      ↔ (value_of store (ending vertex half) ≡ Some value)
  pub once : IsDistinct same_half (keys_of (ins_of store vertex))
