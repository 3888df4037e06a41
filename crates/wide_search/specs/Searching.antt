-- A search in the trees of a share at once: for roots that gain at one place, along an edge from
-- there and on.
use Rattle.std.specs.Prelude.{◌≡◌, ◌≢◌, ℕ, ◌≤◌, ◌⊎◌, min, nat_eq, Option, Some, List, Contains}
use Rattle.std.specs.List.{IsDistinct}
use Rattle.edge_store.specs.declared.edge.EdgeId.{EdgeId}
use Rattle.dfa_table.specs.DfaValue.{DfaValue, step_of}
use Rattle.delta_tree.specs.declared.node.NodeId.{NodeId}
use Rattle.delta_tree.specs.declared.node.Node.{Node}
use Rattle.delta_tree.specs.Nodes.{TreeValue, node_id, node_of, value_of}
use Rattle.delta_tree.specs.Changes.{Carries}
use Rattle.tree_insert.specs.Best.{IsAtLeast}
use Rattle.tree_insert.specs.UnderWay.{AreSupported, Rises}
use Rattle.place_table.specs.declared.gain.Gain.{Gain}
use Rattle.place_table.specs.Table.{gain_roots}
use Rattle.wide_search.specs.declared.batch.Batch.{Batch}
use Rattle.wide_search.specs.declared.share.Share.{Share}
use Rattle.wide_search.specs.Batches.{source_of, target_of}
use Rattle.wide_search.specs.Shares.{Owns}

-- what a search is about: the values of the edges, the widths that they have at the states before
-- it, the automaton, the share of the roots, the trees of all roots before it, the roots that gain
-- at first, each with the number up to which it does, and the place at which they gain, with the
-- width of the edge to it
pub record Task : Type 0 where
  pub values : EdgeId → Option ℕ
  pub widths : ℕ → EdgeId → Option ℕ
  pub dfa : DfaValue
  pub share : Share
  pub trees : ℕ → TreeValue
  pub first : List Gain
  pub goal : NodeId
  pub most : ℕ

-- no width is above the value of its edge; before the search no edge can raise anything in the
-- trees of the share; and the roots that gain are of the share
pub record IsTask (task : Task) : Type 0 where
  pub within : (state number : ℕ) (edge : EdgeId) → IsAtLeast number (task.widths state edge) →
      IsAtLeast number (task.values edge)
  pub closed : (root : ℕ) → Owns task.share root → (edge : EdgeId) (state number next : ℕ) →
      Carries (task.trees root) (node_id edge.from state) number →
      IsAtLeast number (task.widths state edge) →
      step_of task.dfa state edge.label ≡ Some next →
      IsAtLeast number (value_of (task.trees root) (node_id edge.to next))
  pub owned : (gain : Gain) → Contains task.first gain → Owns task.share gain.root

-- ---- batches

-- each root of the first gains has as much at the place before the search, or is among these gains
-- with as much
abbrev pub IsCovered : Task → NodeId → ℕ → List Gain → Gain → Type 0
IsCovered task id width gains first =
    IsAtLeast (min first.cap width) (value_of (task.trees first.root) id)
    ⊎ ((gain : Gain) × Contains gains gain × (gain.root ≡ first.root)
    × (min first.cap width ≤ gain.cap))

-- a batch with these gains can be taken on, and it has all first gains that its target lacks
pub record IsOpen (task : Task) (trees : ℕ → TreeValue) (batch : Batch) (gains : List Gain)
    : Type 0 where
  pub edge : IsAtLeast batch.width (task.values batch.edge)
  pub leads : step_of task.dfa batch.before batch.edge.label ≡ Some batch.state
  pub carries : (gain : Gain) → Contains gains gain →
      Carries (trees gain.root) (source_of batch) (min gain.cap batch.width)
  pub once : IsDistinct nat_eq (gain_roots gains)
  pub caps : (gain : Gain) → Contains gains gain →
      (first : Gain) × Contains task.first first × (first.root ≡ gain.root)
      × (gain.cap ≤ first.cap)
  pub covers : (first : Gain) → Contains task.first first →
      IsCovered task (target_of batch) batch.width gains first

-- ---- the search

-- the place was settled with at least this width, or a batch of as much waits for it
abbrev pub IsOnTheWay : (NodeId → Option ℕ) → List Batch → NodeId → ℕ → Type 0
IsOnTheWay settled waiting id number =
    IsAtLeast number (settled id)
    ⊎ ((batch : Batch) × Contains waiting batch × (target_of batch ≡ id) × (number ≤ batch.width))

-- the root has at the place what it had before the search, or it is one of the first gains, and has
-- no more than this gain and the width of the place allow
abbrev pub IsKeptOrLifted : Task → (NodeId → Option ℕ) → (ℕ → TreeValue) → ℕ → NodeId → Type 0
IsKeptOrLifted task settled trees root id =
    (node_of (trees root) id ≡ node_of (task.trees root) id)
    ⊎ ((width : ℕ) × (settled id ≡ Some width) × (first : Gain) × Contains task.first first
    × (first.root ≡ root) × (node : Node) × (node_of (trees root) id ≡ Some node)
    × (node.value ≤ min first.cap width))

-- a search under way: the places that are settled, each with its width, the trees, and the batches
-- that wait, with the gains of each
pub record IsSearching (task : Task) (settled : NodeId → Option ℕ) (trees : ℕ → TreeValue)
    (waiting : List Batch) (gains_of : Batch → List Gain) : Type 0 where
  pub rises : (root : ℕ) → Rises (task.trees root) (trees root)
  pub supported : (root : ℕ) → AreSupported task.values (step_of task.dfa) (trees root)
  -- what waits can be taken on
  pub open_ones : (batch : Batch) → Contains waiting batch →
      IsOpen task trees batch (gains_of batch)
  -- at a settled place each first gain is there, up to the width
  pub reached : (id : NodeId) (width : ℕ) → settled id ≡ Some width →
      (first : Gain) → Contains task.first first →
      IsAtLeast (min first.cap width) (value_of (trees first.root) id)
  -- nothing else has changed
  pub kept : (root : ℕ) (id : NodeId) → IsKeptOrLifted task settled trees root id
  -- what the first gains and the edges from settled places can give is on its way, or was there
  -- before the search
  pub begun : IsOnTheWay settled waiting task.goal task.most
  pub followed : (edge : EdgeId) (state width number next : ℕ) →
      settled (node_id edge.from state) ≡ Some width → number ≤ width →
      IsAtLeast number (task.widths state edge) →
      step_of task.dfa state edge.label ≡ Some next →
      IsOnTheWay settled waiting (node_id edge.to next) number
      ⊎ ((first : Gain) → Contains task.first first →
      IsAtLeast (min first.cap number) (value_of (task.trees first.root) (node_id edge.to next)))

-- each settled place has a width of at least the level
abbrev pub AreFirm : (NodeId → Option ℕ) → ℕ → Type 0
AreFirm settled level = (id : NodeId) (width : ℕ) → settled id ≡ Some width → level ≤ width

-- the marked places are settled
abbrev pub AreSettled : (NodeId → Option ℕ) → List NodeId → Type 0
AreSettled settled marked = (id : NodeId) → Contains marked id →
    (width : ℕ) × (settled id ≡ Some width)

-- ---- one batch taken on

-- the node that a batch makes for a gain
abbrev pub lifted_node : Batch → Gain → ℕ → Node
lifted_node batch gain stamp = record {
  value = min gain.cap batch.width;
  parent = source_of batch;
  edge = batch.edge;
  stamp = stamp;
}

-- the root was lifted by the batch
abbrev pub IsLifted : TreeValue → TreeValue → Batch → List Gain → ℕ → Type 0
IsLifted old new batch gains root =
    (gain : Gain) × Contains gains gain × (gain.root ≡ root)
    × (IsAtLeast (min gain.cap batch.width) (value_of old (target_of batch)) → ⊥)
    × (stamp : ℕ) × (old.puts ≤ stamp)
    × (node_of new (target_of batch) ≡ Some (lifted_node batch gain stamp))

-- the same roots, and no fewer puts
pub record AreLater (old new : ℕ → TreeValue) : Type 0 where
  pub roots : (root : ℕ) → (new root).root ≡ (old root).root
  pub puts : (root : ℕ) → (old root).puts ≤ (new root).puts

-- in each tree nothing changed, but that the gains were taken on by the batch
pub record LiftsTrees (old new : ℕ → TreeValue) (batch : Batch) (gains : List Gain) : Type 0 where
  pub later : AreLater old new
  pub elsewhere : (root : ℕ) (id : NodeId) → id ≢ target_of batch →
      node_of (new root) id ≡ node_of (old root) id
  pub here : (root : ℕ) →
      (node_of (new root) (target_of batch) ≡ node_of (old root) (target_of batch))
      ⊎ IsLifted (old root) (new root) batch gains root

-- a gain of a root that was lifted by the batch
pub record IsLiftOf (old : ℕ → TreeValue) (batch : Batch) (gain more : Gain) : Type 0 where
  pub root : more.root ≡ gain.root
  pub cap : more.cap ≡ min gain.cap batch.width
  pub before : more.before ≡ value_of (old gain.root) (target_of batch)
  pub lacks : IsAtLeast (min gain.cap batch.width) (value_of (old gain.root) (target_of batch)) → ⊥

-- the gains of the roots that were lifted, and of no others
pub record AddsLifted (old new : ℕ → TreeValue) (batch : Batch) (gains added : List Gain) : Type 0
  where
    pub only : (more : Gain) → Contains added more →
        (gain : Gain) × Contains gains gain × IsLiftOf old batch gain more
        × IsAtLeast more.cap (value_of (new more.root) (target_of batch))
    pub all : (gain : Gain) → Contains gains gain →
        IsAtLeast (min gain.cap batch.width) (value_of (old gain.root) (target_of batch))
        ⊎ ((more : Gain) × Contains added more × IsLiftOf old batch gain more)
    pub once : IsDistinct nat_eq (gain_roots added)

-- a batch by an edge that leaves the target of another, for gains that this one lifted there
pub record IsOut (task : Task) (batch next : Batch) : Type 0 where
  pub source : source_of next ≡ target_of batch
  pub lower : next.width ≤ batch.width
  pub edge : IsAtLeast next.width (task.widths next.before next.edge)
  pub leads : step_of task.dfa next.before next.edge.label ≡ Some next.state

-- what the edges that leave the target can give waits, but for edges by which each root that was
-- lifted could give as much before
abbrev pub AreOffered : Task → Batch → List Gain → List Batch → Type 0
AreOffered task batch added waiting =
    (edge : EdgeId) (number next : ℕ) → edge.from ≡ batch.edge.to → number ≤ batch.width →
    IsAtLeast number (task.widths batch.state edge) →
    step_of task.dfa batch.state edge.label ≡ Some next →
    ((other : Batch) × Contains waiting other × (target_of other ≡ node_id edge.to next)
    × (number ≤ other.width))
    ⊎ ((more : Gain) → Contains added more → IsAtLeast number more.before)

-- after a batch was taken on: what else waited does so still, and beside it only batches by the
-- edges that leave the target, for the gains that were lifted there, if any were
pub record Follows (task : Task) (batch : Batch) (added : List Gain) (waits news : List Batch)
    (gains_of gains_of' : Batch → List Gain) : Type 0 where
  pub rest : (each : Batch) → Contains waits each → (batch ≡ each) ⊎ Contains news each
  pub only : (each : Batch) → Contains news each →
      (Contains waits each × (gains_of' each ≡ gains_of each))
      ⊎ (IsOut task batch each × (gains_of' each ≡ added) × ((more : Gain) × Contains added more))
  pub offered : AreOffered task batch added news
