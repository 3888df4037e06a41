-- The roots that a batch lifted at a place, and the batches by the edges that leave it.
use Rattle.std.specs.Prelude.{◌≡◌, ℕ, ◌≤◌, ◌⊎◌, List, Contains, Option, Some}
use Rattle.edge_store.specs.declared.edge.EdgeId.{EdgeId}
use Rattle.edge_store.specs.Edges.{value_of}
use Rattle.dfa_table.specs.DfaValue.{step_of}
use Rattle.delta_tree.specs.Nodes.{node_id}
use Rattle.tree_insert.specs.Best.{IsAtLeast}
use Rattle.wide_search.specs.declared.batch.Batch.{Batch}
use Rattle.wide_search.specs.declared.graph.Graph.{Graph}
use Rattle.wide_search.specs.declared.offers.Span.{Span}
use Rattle.wide_search.specs.Batches.{source_of, target_of}
use Rattle.wide_search.specs.Widths.{widths}

-- the widths of the edges of a graph at each state
abbrev pub widths_in : Graph → ℕ → EdgeId → Option ℕ
widths_in graph = widths (value_of graph.store.now) graph.edge graph.before graph.pending.now

-- the edge that was raised had no greater value before
abbrev pub HasRaised : Graph → Type 0
HasRaised graph = (number : ℕ) → IsAtLeast number graph.before →
    IsAtLeast number (value_of graph.store.now graph.edge)

-- a batch by an edge that leaves the place of the span, for its gains
pub record IsOfSpan (graph : Graph) (span : Span) (batch : Batch) : Type 0 where
  pub source : source_of batch ≡ span.id
  pub lower : batch.width ≤ span.width
  pub edge : IsAtLeast batch.width (widths_in graph batch.before batch.edge)
  pub leads : step_of graph.dfa.now batch.before batch.edge.label ≡ Some batch.state
  pub low : batch.low ≡ span.low
  pub high : batch.high ≡ span.high

-- what the edge can give from the place waits, or each root of the span had as much there before
abbrev pub IsOffered : Graph → Span → List Batch → EdgeId → Type 0
IsOffered graph span waiting edge =
    (number next : ℕ) → number ≤ span.width →
    IsAtLeast number (widths_in graph span.id.state edge) →
    step_of graph.dfa.now span.id.state edge.label ≡ Some next →
    ((other : Batch) × Contains waiting other × (target_of other ≡ node_id edge.to next)
    × (number ≤ other.width))
    ⊎ IsAtLeast number span.least
