-- The list of the vertices that have an end, while it is made. No contract outside the crate cites
-- this file.
use Rattle.std.specs.Prelude.{◌≡◌, ◌↔◌, ◌⊎◌, ◌+◌, ◌*◌, ◌-◌, ◌<◌, ◌^◌, ℕ, List, Contains, Some}
use Rattle.delta_tree.specs.declared.node.NodeId.{NodeId}
use Rattle.delta_tree.specs.Nodes.{TreeValue, node_id, value_of}
use Rattle.source_tree.specs.declared.change.Reached.{Reached}

-- the value is that of a node of the vertex with a final state
abbrev pub IsValue : List ℕ → TreeValue → Reached → Type 0
IsValue finals tree each = (state : ℕ) × Contains finals state
    × (value_of tree (node_id each.vertex state) ≡ Some each.value)

-- the list has exactly these values
pub record HaveValues (finals : List ℕ) (tree : TreeValue) (reached : List Reached) : Type 0 where
  pub exact : (each : Reached) → Contains reached each ↔ IsValue finals tree each
  pub fits : (each : Reached) → Contains reached each → each.value < 2 ^ 64

-- the list has the value of a place more, where there is one, and nothing else
pub record AddsValue (tree : TreeValue) (id : NodeId) (old new : List Reached) : Type 0 where
  pub kept : (each : Reached) → Contains old each → Contains new each
  pub only : (each : Reached) → Contains new each → Contains old each
      ⊎ ((each.vertex ≡ id.vertex) × (value_of tree id ≡ Some each.value) × (each.value < 2 ^ 64))
  pub there : (value : ℕ) → value_of tree id ≡ Some value →
      Contains new (record { vertex = id.vertex; value = value })

-- a number that rises with the vertex, and for one vertex as the value falls
abbrev pub order_of : Reached → ℕ
order_of each = each.vertex * 2 ^ 64 + (2 ^ 64 - 1 - each.value)
