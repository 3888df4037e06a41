-- The nodes of a tree in the order in which they leave it.
use Rattle.std.specs.Prelude.{◌≡◌, ℕ, ◌≤◌, ◌+◌, ◌*◌, nat_lt, cond, List, length, Some, Contains, sum_by}
use Rattle.std.specs.declared.cmp.Ordering.{Ordering}
use Rattle.std.specs.Ordering.{nat_cmp, ordering_then}
use Rattle.due_queue.specs.declared.due.Due.{Due}
use Rattle.due_queue.specs.Queue.{due}
use Rattle.delta_tree.specs.declared.node.NodeId.{NodeId}
use Rattle.delta_tree.specs.Nodes.{Node, TreeValue, node_in, IsTree}

-- nodes by vertex, then by state
abbrev pub id_cmp : NodeId → NodeId → Ordering
id_cmp first second =
    ordering_then (nat_cmp first.vertex second.vertex) (nat_cmp first.state second.state)

-- each node is noted with a value that is at most its own
abbrev pub IsNoted : List (NodeId × Node) → List (Due NodeId) → Type 0
IsNoted nodes dues = (id : NodeId) (node : Node) → node_in nodes id ≡ Some node →
    (value : ℕ) × (value ≤ node.value) × Contains dues (due id value)

-- as many are noted as there are nodes
abbrev pub IsOneEach : List (NodeId × Node) → List (Due NodeId) → Type 0
IsOneEach nodes dues = length dues ≡ length nodes

-- the dues are as they were, and not too many for so many nodes
pub record IsLeftAlone (nodes : List (NodeId × Node)) (old new : List (Due NodeId)) : Type 0 where
  pub same : new ≡ old
  pub few : length new ≤ 4 * length nodes + 67

-- a node stands there whose value is at most the clock
abbrev pub IsDueIn : List (NodeId × Node) → ℕ → NodeId → Type 0
IsDueIn nodes now id = (node : Node) × (node_in nodes id ≡ Some node) × (node.value ≤ now)

-- a node of this value stands there, which is at most the clock
abbrev pub IsDueWith : List (NodeId × Node) → ℕ → NodeId → ℕ → Type 0
IsDueWith nodes now id value =
    (node : Node) × (node_in nodes id ≡ Some node) × (node.value ≡ value) × (value ≤ now)

-- what was noted still is
abbrev pub KeepsDues : List (Due NodeId) → List (Due NodeId) → Type 0
KeepsDues old new = (each : Due NodeId) → Contains old each → Contains new each

-- for how many the clock has come
abbrev pub pending : ℕ → List (Due NodeId) → ℕ
pending now dues = sum_by (λ (each : Due NodeId). cond (nat_lt now each.number) 0 1) dues

-- a tree, each of whose nodes is noted
pub record IsKept (tree : TreeValue) (dues : List (Due NodeId)) : Type 0 where
  pub is_tree : IsTree tree
  pub noted : IsNoted tree.nodes dues
