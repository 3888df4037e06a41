-- What the calls on a tree change.
use Rattle.std.specs.Prelude.{◌≡◌, ℕ, ◌+◌, ◌<◌, ◌≤◌, ◌⊎◌, ◌↔◌, nat_lt, nat_le, cond, Bool}
use Rattle.std.specs.Prelude.{false}
use Rattle.std.specs.Prelude.{List, Contains, Option, None, Some, All, map}
use Rattle.std.specs.List.{IsDistinct}
use Rattle.edge_store.specs.declared.edge.EdgeId.{EdgeId}
use Rattle.delta_tree.specs.declared.node.NodeId.{NodeId}
use Rattle.delta_tree.specs.declared.node.Shift.{Shift}
use Rattle.delta_tree.specs.declared.node.Try.{Try}
use Rattle.delta_tree.specs.Nodes.{Node, TreeValue, Joins, same_node, root_id, node_of, value_of}
use Rattle.delta_tree.specs.Paths.{IsBelow}

-- the root, or a node of at least this value
abbrev pub Carries : TreeValue → NodeId → ℕ → Type 0
Carries tree id value =
    (id ≡ root_id tree) ⊎ ((node : Node) × (node_of tree id ≡ Some node) × (value ≤ node.value))

-- the step may hang its target below its source with this value
pub record CanHang (tree : TreeValue) (step : Try) (value : ℕ) : Type 0 where
  pub from : Carries tree step.from value
  pub state : 0 < step.to.state
  pub joins : Joins step.from step.edge step.to

-- the value is above that of the node, where there is one
abbrev pub Raises : TreeValue → NodeId → ℕ → Type 0
Raises tree id value = (node : Node) → node_of tree id ≡ Some node → node.value < value

-- the node that a put makes
abbrev pub put_node : TreeValue → Try → ℕ → Node
put_node tree step value = record {
  value = value;
  parent = step.from;
  edge = step.edge;
  stamp = tree.puts;
}

-- this node stands there now, and each other node as it stood
abbrev pub Puts : TreeValue → TreeValue → NodeId → Node → Type 0
Puts old new id node =
    (each : NodeId) → node_of new each ≡ cond (same_node id each) (Some node) (node_of old each)

-- a node whose value is above the clock, else none
abbrev pub living : ℕ → Option Node → Option Node
living now None = None
living now (Some node) = cond (nat_lt now node.value) (Some node) None

-- the nodes whose value is at most the clock are gone, and the others as they stood
abbrev pub Expires : TreeValue → TreeValue → ℕ → Type 0
Expires old new now = (id : NodeId) → node_of new id ≡ living now (node_of old id)

-- the nodes of all places but these are as they were
abbrev pub ChangesAtMost : TreeValue → TreeValue → List NodeId → Type 0
ChangesAtMost old new ids =
    (id : NodeId) → (Contains ids id → ⊥) → node_of new id ≡ node_of old id

-- a node stands there whose value is at most the clock
abbrev pub IsDueAt : TreeValue → ℕ → NodeId → Type 0
IsDueAt tree now id = (node : Node) × (node_of tree id ≡ Some node) × (node.value ≤ now)

-- the list has exactly the nodes whose value is at most the clock, each once
pub record AreDue (tree : TreeValue) (now : ℕ) (ids : List NodeId) : Type 0 where
  pub exact : (id : NodeId) → Contains ids id ↔ IsDueAt tree now id
  pub once : IsDistinct same_node ids

-- the places of these shifts
abbrev pub shift_ids : List Shift → List NodeId
shift_ids shifts = map (λ (each : Shift). each.id) shifts

-- the shift has the values at its place before and after
pub record IsShift (old new : TreeValue) (shift : Shift) : Type 0 where
  pub before : value_of old shift.id ≡ shift.before
  pub after : value_of new shift.id ≡ shift.after

-- the list has each place whose node changed, once, with its values before and after
pub record AreShifts (old new : TreeValue) (shifts : List Shift) : Type 0 where
  pub values : All (IsShift old new) shifts
  pub once : IsDistinct same_node (shift_ids shifts)
  pub others : ChangesAtMost old new (shift_ids shifts)

-- whether there is a value, and it is at least this number
abbrev pub is_enough : Option ℕ → ℕ → Bool
is_enough None number = false
is_enough (Some kept) number = nat_le number kept

-- the step gave its target a greater value than it had, by a put
pub record Lifts (old new : TreeValue) (step : Try) (value : ℕ) (told : Shift) : Type 0 where
  pub raises : Raises old step.to value
  pub node : Puts old new step.to (put_node old step value)
  pub counted : new.puts ≡ old.puts + 1
  pub shift : told ≡ record {
    id = step.to;
    before = value_of old step.to;
    after = Some value;
  }

-- the tree is as before, and has a node there of at least this value
pub record HasAsMuch (old new : TreeValue) (id : NodeId) (value : ℕ) : Type 0 where
  pub same : new ≡ old
  pub enough : (node : Node) × (node_of old id ≡ Some node) × (value ≤ node.value)

-- no node's value is below the number
abbrev pub IsFloor : TreeValue → ℕ → Type 0
IsFloor tree number =
    (id : NodeId) (node : Node) → node_of tree id ≡ Some node → number ≤ node.value

-- the same root, and the same number of puts
pub record IsSameBeside (old new : TreeValue) : Type 0 where
  pub root : new.root ≡ old.root
  pub puts : new.puts ≡ old.puts

-- the nodes on whose path the edge stands are gone, and the others as they stood
pub record Cuts (old new : TreeValue) (edge : EdgeId) : Type 0 where
  pub gone : (id : NodeId) → IsBelow old edge id → node_of new id ≡ None
  pub kept : (id : NodeId) → (IsBelow old edge id → ⊥) → node_of new id ≡ node_of old id

-- the list has exactly the nodes on whose path the edge stands, each once
pub record AreBelow (tree : TreeValue) (edge : EdgeId) (ids : List NodeId) : Type 0 where
  pub exact : (id : NodeId) → Contains ids id ↔ IsBelow tree edge id
  pub once : IsDistinct same_node ids
