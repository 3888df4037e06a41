-- What is read of one place or vertex.
use Rattle.std.specs.Prelude.{◌≡◌, ℕ, ◌↔◌, min, cond, List, Option, None, Some, Contains}
use Rattle.std.specs.List.Sorted.{IsStrictlySortedBy}
use Rattle.std.specs.Ordering.{nat_cmp}
use Rattle.edge_store.specs.declared.edge.EdgeId.{EdgeId}
use Rattle.edge_store.specs.Edges.{same_edge}
use Rattle.delta_tree.specs.declared.node.NodeId.{NodeId}
use Rattle.place_table.specs.declared.gain.Gain.{Gain}
use Rattle.place_table.specs.declared.place.Kept.{Kept}
use Rattle.place_table.specs.Kept.{Placed, kept_at}
use Rattle.place_table.specs.Table.{is_above}

-- the gain of a root that has a value above the number
abbrev pub gain_of : Option ℕ → ℕ → ℕ × Kept → Option Gain
gain_of above most entry = cond (is_above above entry.1.value)
    (Some (record { root = entry.0; cap = min entry.1.value most; before = above })) None

-- the edge of a node of which this is kept
abbrev pub edge_kept : NodeId → Kept → EdgeId
edge_kept id kept = record { from = kept.from; label = kept.label; to = id.vertex }

-- the root whose node at the place hangs by the edge
abbrev pub root_by : EdgeId → NodeId → ℕ × Kept → Option ℕ
root_by edge id entry = cond (same_edge (edge_kept id entry.1) edge) (Some entry.0) None

-- some root has a node at the place
abbrev pub HasRoots : List Placed → NodeId → Type 0
HasRoots places id = (root : ℕ) × (kept : Kept) × (kept_at places root id ≡ Some kept)

-- the same numbers, each once, in rising order
pub record AreSorted (old new : List ℕ) : Type 0 where
  pub rising : IsStrictlySortedBy nat_cmp new
  pub exact : (number : ℕ) → Contains new number ↔ Contains old number
