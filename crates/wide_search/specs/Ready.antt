-- A search under way over a table.
use Rattle.std.specs.Prelude.{◌≡◌, ℕ, ◌≤◌, ◌⊎◌, ◌+◌, ◌++◌, Option, List, length, Contains}
use Rattle.std.specs.Prelude.{nat_eq}
use Rattle.std.specs.List.{IsDistinct}
use Rattle.edge_store.specs.declared.edge.EdgeId.{EdgeId}
use Rattle.edge_store.specs.Edges.{value_of}
use Rattle.dfa_table.specs.DfaValue.{step_of}
use Rattle.delta_tree.specs.declared.node.NodeId.{NodeId}
use Rattle.delta_tree.specs.Nodes.{TreeValue, node_id, node_of}
use Rattle.delta_tree.specs.Changes.{Carries}
use Rattle.tree_insert.specs.Best.{IsAtLeast}
use Rattle.tree_insert.specs.UnderWay.{AreSupported, Rises}
use Rattle.place_table.specs.declared.gain.Gain.{Gain}
use Rattle.place_table.specs.Table.{TableValue, gain_roots, tree_in}
use Rattle.place_table.specs.Lifts.{LiftsAll, MarksAtMost, between, lifted_gains}
use Rattle.wide_search.specs.declared.batch.Batch.{Batch}
use Rattle.wide_search.specs.declared.graph.Graph.{Graph}
use Rattle.wide_search.specs.declared.offers.Span.{Span}
use Rattle.wide_search.specs.Batches.{BatchesValue, target_of, try_of}
use Rattle.wide_search.specs.Searching.{Task, IsTask, IsSearching, AreFirm, AreSettled}
use Rattle.wide_search.specs.Shares.{HasNoOthers, Owns}
use Rattle.wide_search.specs.Spans.{widths_in}
use Rattle.wide_search.specs.Widths.{IsClosed, widths}

-- with what a search begins: the trees of all roots, the first gains, and the place at which they
-- gain, with the width of the edge to it
pub record Start : Type 0 where
  pub trees : ℕ → TreeValue
  pub first : List Gain
  pub goal : NodeId
  pub most : ℕ

-- what a search in a graph is about
abbrev pub task_of : Graph → Start → Task
task_of graph start = record {
  values = value_of graph.store.now;
  widths = widths_in graph;
  dfa = graph.dfa.now;
  share = graph.share;
  trees = start.trees;
  first = start.first;
  goal = start.goal;
  most = start.most;
}

-- the gains of a batch
abbrev pub held : List Gain → Batch → List Gain
held gains batch = between batch.low batch.high gains

-- the gains of a batch stand in the list
pub record StandsIn (gains : List Gain) (batch : Batch) : Type 0 where
  pub some : batch.low ≤ batch.high
  pub within : batch.high ≤ length gains

-- a search under way, with these batches, none of which is wider than the level
pub record IsReady (task : Task) (settled : NodeId → Option ℕ) (table : TableValue)
    (gains : List Gain) (waits : List Batch) (level : ℕ) : Type 0 where
  pub searching : IsSearching task settled (tree_in table) waits (held gains)
  pub firm : AreFirm settled level
  pub marked : AreSettled settled table.marked
  pub stand : (batch : Batch) → Contains waits batch → StandsIn gains batch

-- the same, with some settled places
abbrev pub IsUnderWay : Graph → Start → TableValue → List Gain → List Batch → ℕ → Type 0
IsUnderWay graph start table gains waits level =
    IsTask (task_of graph start) × ((settled : NodeId → Option ℕ)
    × IsReady (task_of graph start) settled table gains waits level)

-- the batch was taken on: its gains were, and the roots that were lifted stand behind the others;
-- the same tree is shown
pub record IsLiftedBy (old new : TableValue) (before after : List Gain) (batch : Batch)
    (span : Span) : Type 0 where
  pub lifts : LiftsAll old new (try_of batch) batch.width (held before batch)
  pub marks : MarksAtMost old new (target_of batch)
  pub shown : new.root ≡ old.root
  pub added : after ≡ before ++ lifted_gains old (target_of batch) batch.width (held before batch)
  pub id : span.id ≡ target_of batch
  pub width : span.width ≡ batch.width
  pub low : span.low ≡ length before
  pub high : span.high ≡ length after
  pub least : (more : Gain) (number : ℕ) →
      Contains (lifted_gains old (target_of batch) batch.width (held before batch)) more →
      IsAtLeast number span.least → IsAtLeast number more.before

-- no gain came in, and nothing but the batch that was taken stopped waiting; or there are more
-- gains
abbrev pub GainsOrStays : List Gain → List Gain → BatchesValue → BatchesValue → Type 0
GainsOrStays before after old new =
    ((after ≡ before) × (new ≡ old)) ⊎ (length before + 1 ≤ length after)

-- the first gains at a place: they are of roots of the share, and each of these that carries a
-- number there, up to the value, gains as much, but for numbers that the edge had before
pub record AreFirst (graph : Graph) (table : TableValue) (state value : ℕ) (gains : List Gain)
    : Type 0 where
  pub carries : (gain : Gain) → Contains gains gain →
      Carries (tree_in table gain.root) (node_id graph.edge.from state) gain.cap
  pub owned : (gain : Gain) → Contains gains gain → Owns graph.share gain.root
  pub firsts : (root number : ℕ) → Owns graph.share root →
      Carries (tree_in table root) (node_id graph.edge.from state) number → number ≤ value →
      IsAtLeast number graph.before
      ⊎ ((gain : Gain) × Contains gains gain × (gain.root ≡ root) × (number ≤ gain.cap))
  pub once : IsDistinct nat_eq (gain_roots gains)

-- no edge of a graph can raise anything in the trees of the share, other roots have no nodes, and
-- the edges to the parents support all nodes
pub record IsSound (graph : Graph) (table : TableValue) : Type 0 where
  pub closed : (root : ℕ) → Owns graph.share root →
      IsClosed (widths_in graph) (step_of graph.dfa.now) (tree_in table root)
  pub others : HasNoOthers graph.share table
  pub supported : (root : ℕ) →
      AreSupported (value_of graph.store.now) (step_of graph.dfa.now) (tree_in table root)

-- widths that are no more than before, but for the edge that was raised at one state
abbrev pub GrowAt : Graph → ℕ → ℕ → (ℕ → EdgeId → Option ℕ) → Type 0
GrowAt graph state value widths =
    (at number : ℕ) (each : EdgeId) → IsAtLeast number (widths at each) →
    IsAtLeast number (widths_in graph at each)
    ⊎ ((each ≡ graph.edge) × (at ≡ state) × (number ≤ value))

-- a root that doesn't stand at the place keeps its nodes
abbrev pub Stays : ℕ → TableValue → TableValue → ℕ → ℕ → Type 0
Stays root old new vertex state =
    ((number : ℕ) → Carries (tree_in old root) (node_id vertex state) number → ⊥) →
    (id : NodeId) → node_of (tree_in new root) id ≡ node_of (tree_in old root) id

-- after the search from one state the trees come from those before it by raises; no edge can raise
-- anything in those of the share by widths that have grown there; other roots have no nodes; and
-- only roots that stand there have changed
pub record IsSearched (graph : Graph) (state value : ℕ) (old new : TableValue) : Type 0 where
  pub closed : (widths : ℕ → EdgeId → Option ℕ) → GrowAt graph state value widths →
      (root : ℕ) → Owns graph.share root →
      IsClosed widths (step_of graph.dfa.now) (tree_in new root)
  pub others : HasNoOthers graph.share new
  pub supported : (root : ℕ) →
      AreSupported (value_of graph.store.now) (step_of graph.dfa.now) (tree_in new root)
  pub rises : (root : ℕ) → Rises (tree_in old root) (tree_in new root)
  pub only : (root : ℕ) → Stays root old new graph.edge.from state

-- a root that doesn't stand at the vertex keeps its nodes
abbrev pub StaysBeside : ℕ → TableValue → TableValue → ℕ → Type 0
StaysBeside root old new vertex =
    ((state number : ℕ) → Carries (tree_in old root) (node_id vertex state) number → ⊥) →
    (id : NodeId) → node_of (tree_in new root) id ≡ node_of (tree_in old root) id

-- after searches: no edge can raise anything in the trees of the share by its width where these
-- states are still to be searched; other roots have no nodes; the edges to the parents support all
-- nodes; the trees come from those before by raises; and only roots that stand at the vertex have
-- changed
pub record AreSearched (graph : Graph) (pending : List ℕ) (old new : TableValue) : Type 0 where
  pub closed : (root : ℕ) → Owns graph.share root →
      IsClosed (widths (value_of graph.store.now) graph.edge graph.before pending)
      (step_of graph.dfa.now) (tree_in new root)
  pub others : HasNoOthers graph.share new
  pub supported : (root : ℕ) →
      AreSupported (value_of graph.store.now) (step_of graph.dfa.now) (tree_in new root)
  pub rises : (root : ℕ) → Rises (tree_in old root) (tree_in new root)
  pub only : (root : ℕ) → StaysBeside root old new graph.edge.from
