-- Nodes that a tree lost, as shifts.
use Rattle.std.specs.Prelude.{◌≡◌, ℕ, List, ◌++◌, [], ◌∷◌, map, Option, None, Some, option_map}
use Rattle.delta_tree.specs.declared.node.NodeId.{NodeId}
use Rattle.delta_tree.specs.declared.node.Shift.{Shift}
use Rattle.delta_tree.specs.Nodes.{Node, node_in}

-- no node stands there any more
abbrev pub loss : NodeId → Option ℕ → Shift
loss id before = record { id = id; before = before; after = None }

-- the list with one more, where a value was lost
abbrev pub with_loss : List Shift → NodeId → Option ℕ → List Shift
with_loss shifts id None = shifts
with_loss shifts id (Some value) = shifts ++ loss id (Some value) ∷ []

-- the loss of what stands at each of these places
abbrev pub losses : List (NodeId × Node) → List NodeId → List Shift
losses nodes ids =
    map (λ (id : NodeId). loss id (option_map (λ (node : Node). node.value) (node_in nodes id))) ids

-- the shift has the value that stood there, and that none does
pub record IsLoss (nodes : List (NodeId × Node)) (shift : Shift) : Type 0 where
  pub before : option_map (λ (node : Node). node.value) (node_in nodes shift.id) ≡ shift.before
  pub after : shift.after ≡ None
