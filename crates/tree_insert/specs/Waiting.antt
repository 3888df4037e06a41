-- Tries that wait to be taken.
use Rattle.std.specs.Prelude.{◌≡◌, ℕ, ◌≤◌, ◌⊎◌, List, [], ◌∷◌, ◌++◌, All, Contains}
use Rattle.std.specs.declared.cmp.Ordering.{Ordering}
use Rattle.std.specs.Ordering.{nat_cmp, ordering_then}
use Rattle.std.specs.BinaryHeap.{IsHeap}
use Rattle.edge_store.specs.declared.edge.EdgeId.{EdgeId}
use Rattle.delta_tree.specs.declared.node.NodeId.{NodeId}
use Rattle.delta_tree.specs.declared.node.Shift.{Shift}
use Rattle.delta_tree.specs.declared.node.Try.{Try}
use Rattle.delta_tree.specs.Nodes.{node_id}
use Rattle.tree_insert.specs.declared.waiting.Waiting.{Waiting}

-- where the try comes from, and the place that it would raise
abbrev pub source_of : Waiting → NodeId
source_of waiting = node_id waiting.edge.from waiting.before

abbrev pub target_of : Waiting → NodeId
target_of waiting = node_id waiting.edge.to waiting.state

abbrev pub try_of : Waiting → Try
try_of waiting = record {
  from = source_of waiting;
  edge = waiting.edge;
  to = target_of waiting;
}

-- ---- their order

-- edges by source, then by label, then by target
abbrev pub edge_cmp : EdgeId → EdgeId → Ordering
edge_cmp first second =
    ordering_then (nat_cmp first.from second.from)
    (ordering_then (nat_cmp first.label second.label) (nat_cmp first.to second.to))

-- the greatest is one of the greatest value
abbrev pub waiting_cmp : Waiting → Waiting → Ordering
waiting_cmp first second =
    ordering_then (nat_cmp first.value second.value)
    (ordering_then (edge_cmp first.edge second.edge)
    (ordering_then (nat_cmp first.before second.before) (nat_cmp first.state second.state)))

-- ---- a search

-- the tries that wait, a value that none of them is above, and the places whose nodes the last call
-- changed
pub record SearchValue : Type 0 where
  pub waiting : List Waiting
  pub level : ℕ
  pub shifts : List Shift

-- with the shift of one place more
abbrev pub with_shift : SearchValue → Shift → SearchValue
with_shift search shift = record {
  waiting = search.waiting;
  level = search.level;
  shifts = search.shifts ++ shift ∷ [];
}

-- the tries of the level on a stack, and those of at most the level in a heap
pub record IsSearch (stack heap : List Waiting) (level : ℕ) : Type 0 where
  pub order : IsHeap waiting_cmp heap
  pub now : All (λ each. each.value ≡ level) stack
  pub later : All (λ each. each.value ≤ level) heap

-- what waited goes on to wait, and beside it only tries of this kind; all else stays
pub record Gains (old new : SearchValue) (kind : Waiting → Type 0) : Type 0 where
  pub kept : (each : Waiting) → Contains old.waiting each → Contains new.waiting each
  pub only : (each : Waiting) → Contains new.waiting each → Contains old.waiting each ⊎ kind each
  pub level : new.level ≡ old.level
  pub shifts : new.shifts ≡ old.shifts

-- the try waited and is taken, the others go on to wait; its value is the level now, and none is
-- above it
pub record Takes (old new : SearchValue) (taken : Waiting) : Type 0 where
  pub there : Contains old.waiting taken
  pub rest : (each : Waiting) → Contains old.waiting each → Contains (taken ∷ new.waiting) each
  pub only : (each : Waiting) → Contains new.waiting each → Contains old.waiting each
  pub level : new.level ≡ taken.value
  pub shifts : new.shifts ≡ old.shifts
  pub greatest : taken.value ≤ old.level
