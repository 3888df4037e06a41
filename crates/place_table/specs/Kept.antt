-- The nodes of a table as it keeps them, and where they are found.
use Rattle.std.specs.Prelude.{◌≡◌, ℕ, ◌+◌, ◌&&◌, Bool, false, nat_eq, cond, List, [], ◌∷◌, map, Option, None, Some, slice_get, slice_index_or}
use Rattle.std.specs.Map.{lookup}
use Rattle.delta_tree.specs.declared.node.NodeId.{NodeId}
use Rattle.delta_tree.specs.declared.node.Node.{Node}
use Rattle.delta_tree.specs.Nodes.{node_id, same_node}
use Rattle.place_table.specs.declared.spot.Spot.{Spot}
use Rattle.place_table.specs.declared.place.Kept.{Kept}
use Rattle.place_table.specs.Table.{PlaceValue}

-- a place, and what is kept of the node of each root there
pub record Placed : Type 0 where
  pub id : NodeId
  pub nodes : List (ℕ × Kept)

-- ---- nodes

-- with one more, where there is one
abbrev pub with_kept : NodeId → Option Kept → List (NodeId × Kept) → List (NodeId × Kept)
with_kept id None kept = kept
with_kept id (Some one) kept = (id, one) ∷ kept

-- what is kept of the nodes of a root
abbrev pub kept_nodes : List Placed → ℕ → List (NodeId × Kept)
kept_nodes [] root = []
kept_nodes (place ∷ places) root =
    with_kept place.id (lookup (nat_eq root) place.nodes) (kept_nodes places root)

-- what is kept of the node of a root at a place
abbrev pub kept_at : List Placed → ℕ → NodeId → Option Kept
kept_at places root id = lookup (same_node id) (kept_nodes places root)

-- the same root at the same place
abbrev pub same_spot : ℕ → NodeId → ℕ → NodeId → Bool
same_spot root id each at = nat_eq root each && same_node id at

-- this is kept there now, or nothing, and of each other node what was
abbrev pub PutsAt : List Placed → List Placed → ℕ → NodeId → Option Kept → Type 0
PutsAt old new root id kept = (each : ℕ) (at : NodeId) →
    kept_at new each at ≡ cond (same_spot root id each at) kept (kept_at old each at)

-- of each root the same nodes are kept
abbrev pub KeepSame : List Placed → List Placed → Type 0
KeepSame old new = (root : ℕ) → kept_nodes new root ≡ kept_nodes old root

-- ---- stamps

-- the place of the last put of this root at this place, the first of these being put after so many
abbrev pub last_put : ℕ → ℕ → List Spot → ℕ → NodeId → ℕ
last_put count found [] root id = found
last_put count found (spot ∷ spots) root id =
    last_put (count + 1) (cond (same_spot spot.root spot.id root id) count found) spots root id

-- the number of puts before the last one of this root at this place
abbrev pub stamp_of : List Spot → ℕ → NodeId → ℕ
stamp_of puts root id = last_put 0 0 puts root id

-- the node of which this is kept
abbrev pub whole : NodeId → Kept → ℕ → Node
whole id kept stamp = record {
  value = kept.value;
  parent = node_id kept.from kept.before;
  edge = record { from = kept.from; label = kept.label; to = id.vertex };
  stamp = stamp;
}

-- the nodes of a place
abbrev pub seen_place : List Spot → Placed → PlaceValue
seen_place puts place = record {
  id = place.id;
  nodes = map (λ (each : ℕ × Kept).
      (each.0, whole place.id each.1 (stamp_of puts each.0 place.id))) place.nodes;
}

-- those of all places
abbrev pub seen : List Spot → List Placed → List PlaceValue
seen puts places = map (seen_place puts) places

-- ---- where a place is found

-- the states at a vertex, each with the number of a place
abbrev pub row_at : List (List (ℕ × ℕ)) → ℕ → List (ℕ × ℕ)
row_at rows vertex = slice_index_or rows vertex []

-- where the place is to be looked for
abbrev pub hint_of : List (List (ℕ × ℕ)) → NodeId → Option ℕ
hint_of rows id = lookup (nat_eq id.state) (row_at rows id.vertex)

-- each place is looked for where it is
abbrev pub AreHinted : List (List (ℕ × ℕ)) → List Placed → Type 0
AreHinted rows places = (number : ℕ) (place : Placed) → slice_get places number ≡ Some place →
    hint_of rows place.id ≡ Some number

-- the place has this number
abbrev pub IsThere : List Placed → NodeId → ℕ → Type 0
IsThere places id number =
    (place : Placed) × (slice_get places number ≡ Some place) × (place.id ≡ id)

-- no place is this one
abbrev pub IsAbsent : List Placed → NodeId → Type 0
IsAbsent places id = (number : ℕ) (place : Placed) → slice_get places number ≡ Some place →
    same_node id place.id ≡ false
