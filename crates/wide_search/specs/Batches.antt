-- Batches that wait to be taken.
use Rattle.std.specs.Prelude.{◌≡◌, ℕ, ◌≤◌, ◌⊎◌, List, ◌∷◌, All, Contains}
use Rattle.std.specs.declared.cmp.Ordering.{Ordering}
use Rattle.std.specs.Ordering.{nat_cmp, ordering_then}
use Rattle.std.specs.BinaryHeap.{IsHeap}
use Rattle.delta_tree.specs.declared.node.NodeId.{NodeId}
use Rattle.delta_tree.specs.declared.node.Try.{Try}
use Rattle.delta_tree.specs.Nodes.{node_id}
use Rattle.tree_insert.specs.Waiting.{edge_cmp}
use Rattle.wide_search.specs.declared.batch.Batch.{Batch}

-- where the batch comes from, and the place that it would raise
abbrev pub source_of : Batch → NodeId
source_of batch = node_id batch.edge.from batch.before

abbrev pub target_of : Batch → NodeId
target_of batch = node_id batch.edge.to batch.state

abbrev pub try_of : Batch → Try
try_of batch = record {
  from = source_of batch;
  edge = batch.edge;
  to = target_of batch;
}

-- ---- their order

-- the greatest is one of the greatest width
abbrev pub batch_cmp : Batch → Batch → Ordering
batch_cmp first second =
    ordering_then (nat_cmp first.width second.width)
    (ordering_then (edge_cmp first.edge second.edge)
    (ordering_then (nat_cmp first.before second.before)
    (ordering_then (nat_cmp first.state second.state)
    (ordering_then (nat_cmp first.low second.low) (nat_cmp first.high second.high)))))

-- ---- those that wait

-- the batches that wait, and a width that none of them is above
pub record BatchesValue : Type 0 where
  pub waiting : List Batch
  pub level : ℕ

-- the batches of the level on a stack, and those of at most the level in a heap
pub record AreLevelled (stack heap : List Batch) (level : ℕ) : Type 0 where
  pub order : IsHeap batch_cmp heap
  pub now : All (λ each. each.width ≡ level) stack
  pub later : All (λ each. each.width ≤ level) heap

-- what waited goes on to wait, and beside it only batches of this kind
pub record Gains (old new : BatchesValue) (kind : Batch → Type 0) : Type 0 where
  pub kept : (each : Batch) → Contains old.waiting each → Contains new.waiting each
  pub only : (each : Batch) → Contains new.waiting each → Contains old.waiting each ⊎ kind each
  pub level : new.level ≡ old.level

-- the batch waited and is taken, the others go on to wait; its width is the level now, and none is
-- above it
pub record Takes (old new : BatchesValue) (taken : Batch) : Type 0 where
  pub there : Contains old.waiting taken
  pub rest : (each : Batch) → Contains old.waiting each → Contains (taken ∷ new.waiting) each
  pub only : (each : Batch) → Contains new.waiting each → Contains old.waiting each
  pub level : new.level ≡ taken.width
  pub greatest : taken.width ≤ old.level
