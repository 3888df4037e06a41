-- A tree and the tries that wait while a search is under way.
use Rattle.std.specs.Prelude.{◌≡◌, ◌≢◌, ℕ, ◌≤◌, ◌<◌, ◌+◌, ◌⊎◌, min, Option, Some}
use Rattle.std.specs.Prelude.{List, [], length, Contains, All, AllPairs}
use Rattle.edge_store.specs.declared.edge.EdgeId.{EdgeId}
use Rattle.edge_store.specs.declared.edge.Out.{Out}
use Rattle.edge_store.specs.Edges.{Edges}
use Rattle.dfa_table.specs.DfaValue.{DfaValue, step_of}
use Rattle.delta_tree.specs.declared.node.NodeId.{NodeId}
use Rattle.delta_tree.specs.declared.node.Try.{Try}
use Rattle.delta_tree.specs.declared.node.Node.{Node}
use Rattle.delta_tree.specs.Nodes.{TreeValue, node_id, node_of, value_of, IsTree}
use Rattle.delta_tree.specs.Changes.{Carries, Raises}
use Rattle.tree_insert.specs.declared.waiting.Waiting.{Waiting}
use Rattle.tree_insert.specs.Best.{IsAtLeast}
use Rattle.tree_insert.specs.Trees.{IsRisen, count_outs}
use Rattle.tree_insert.specs.Waiting.{SearchValue, source_of, target_of}

-- the parent edge of the node has at least the node's value, and the automaton's step with it leads
-- from the state of the parent to that of the node
pub record IsSupported (values : EdgeId → Option ℕ) (step : ℕ → ℕ → Option ℕ) (id : NodeId)
    (node : Node) : Type 0 where
  pub edge : IsAtLeast node.value (values node.edge)
  pub leads : step node.parent.state node.edge.label ≡ Some id.state

abbrev pub AreSupported : (EdgeId → Option ℕ) → (ℕ → ℕ → Option ℕ) → TreeValue → Type 0
AreSupported values step tree =
    (id : NodeId) (node : Node) → node_of tree id ≡ Some node → IsSupported values step id node

-- the automaton's step by the edge leads from the one state of the try to the other, which is not
-- that of the start
pub record IsStep (dfa : DfaValue) (waiting : Waiting) : Type 0 where
  pub leads : step_of dfa waiting.before waiting.edge.label ≡ Some waiting.state
  pub some : 0 < waiting.state
  pub within : waiting.state < length dfa.rows

-- a waiting try can be taken, and leads to one of the automaton's states
pub record IsOpen (values : EdgeId → Option ℕ) (dfa : DfaValue) (tree : TreeValue)
    (waiting : Waiting) : Type 0 where
  pub source : Carries tree (source_of waiting) waiting.value
  pub edge : IsAtLeast waiting.value (values waiting.edge)
  pub is_step : IsStep dfa waiting

abbrev pub AreOpen : (EdgeId → Option ℕ) → DfaValue → TreeValue → List Waiting → Type 0
AreOpen values dfa tree waits = (each : Waiting) → Contains waits each → IsOpen values dfa tree each

-- the place has this value, or a try waits that gives it as much
abbrev pub IsServed : TreeValue → List Waiting → NodeId → ℕ → Type 0
IsServed tree waits id number =
    IsAtLeast number (value_of tree id)
    ⊎ ((each : Waiting) × Contains waits each × (target_of each ≡ id) × (number ≤ each.value))

-- what the root and the nodes could give by the edges is there, or waits
abbrev pub AreServed : (EdgeId → Option ℕ) → (ℕ → ℕ → Option ℕ) → TreeValue → List Waiting → Type 0
AreServed values step tree waits =
    (edge : EdgeId) (before number state : ℕ) →
    Carries tree (node_id edge.from before) number → IsAtLeast number (values edge) →
    step before edge.label ≡ Some state →
    IsServed tree waits (node_id edge.to state) number

-- what a place of this state could give by an edge of this value is there, or waits
abbrev pub IsServedBy : DfaValue → TreeValue → List Waiting → EdgeId → ℕ → ℕ → Type 0
IsServedBy dfa tree waits edge value before =
    (number state : ℕ) → number ≤ value → Carries tree (node_id edge.from before) number →
    step_of dfa before edge.label ≡ Some state → IsServed tree waits (node_id edge.to state) number

-- the try by an edge of at least this value from the one state to the other
pub record IsBetween (tree : TreeValue) (before : ℕ) (edge : EdgeId) (value state : ℕ)
    (waiting : Waiting) : Type 0 where
  pub lower : waiting.value ≤ value
  pub source : Carries tree (source_of waiting) waiting.value
  pub edge_is : waiting.edge ≡ edge
  pub before_is : waiting.before ≡ before
  pub state_is : waiting.state ≡ state

-- a waiting try by the edge, from any state
pub record IsBy (dfa : DfaValue) (tree : TreeValue) (edge : EdgeId) (value : ℕ)
    (waiting : Waiting) : Type 0 where
  pub lower : waiting.value ≤ value
  pub source : Carries tree (source_of waiting) waiting.value
  pub edge_is : waiting.edge ≡ edge
  pub is_step : IsStep dfa waiting

-- a waiting try that is the given one
pub record IsOfTry (values : EdgeId → Option ℕ) (tree : TreeValue) (step : Try)
    (waiting : Waiting) : Type 0 where
  pub source : Carries tree (source_of waiting) waiting.value
  pub edge : IsAtLeast waiting.value (values waiting.edge)
  pub edge_is : waiting.edge ≡ step.edge
  pub before_is : waiting.before ≡ step.from.state
  pub state_is : waiting.state ≡ step.to.state

-- the try by an edge that leaves a node of this value
pub record IsOut (dfa : DfaValue) (id : NodeId) (value : ℕ) (out : Out) (waiting : Waiting)
    : Type 0 where
  pub value_is : waiting.value ≡ min value out.value
  pub edge : waiting.edge ≡ record { from = id.vertex; label = out.label; to = out.to }
  pub before : waiting.before ≡ id.state
  pub is_step : IsStep dfa waiting

-- a try by an edge with a value that leaves a node of this value
pub record Leaves (values : EdgeId → Option ℕ) (dfa : DfaValue) (id : NodeId) (value : ℕ)
    (waiting : Waiting) : Type 0 where
  pub lower : waiting.value ≤ value
  pub edge : IsAtLeast waiting.value (values waiting.edge)
  pub source : source_of waiting ≡ id
  pub is_step : IsStep dfa waiting

-- what the edges from a node of this value could give, and not with the value that it had before,
-- is there, or waits
abbrev pub IsServedFrom : (EdgeId → Option ℕ) → (ℕ → ℕ → Option ℕ) → TreeValue → List Waiting →
    NodeId → ℕ → Option ℕ → Type 0
IsServedFrom values step tree waits id value before =
    (edge : EdgeId) (number state : ℕ) →
    edge.from ≡ id.vertex → number ≤ value → (IsAtLeast number before → ⊥) →
    IsAtLeast number (values edge) → step id.state edge.label ≡ Some state →
    IsServed tree waits (node_id edge.to state) number

-- a node of a tree is that of another, or new or raised, with a stamp of its own
abbrev pub IsSameOrFresh : TreeValue → TreeValue → NodeId → Node → Type 0
IsSameOrFresh first tree id node =
    (node_of first id ≡ Some node) ⊎ (Raises first id node.value × (first.puts ≤ node.stamp))

-- the tree comes from another by raises
pub record Rises (first tree : TreeValue) : Type 0 where
  pub root : tree.root ≡ first.root
  pub puts : first.puts ≤ tree.puts
  pub nodes : (id : NodeId) (node : Node) →
      node_of tree id ≡ Some node → IsSameOrFresh first tree id node
  pub risen : (id : NodeId) (before : Node) →
      node_of first id ≡ Some before →
      (node : Node) × (node_of tree id ≡ Some node) × (before.value ≤ node.value)

-- a tree that comes from another, each node of which its parent edge supports
pub record IsUnderWay (values : EdgeId → Option ℕ) (step : ℕ → ℕ → Option ℕ)
    (first tree : TreeValue) : Type 0 where
  pub tree_is : IsTree tree
  pub supported : AreSupported values step tree
  pub rises : Rises first tree

-- such a tree, with tries that can be taken on it
pub record IsReady (values : EdgeId → Option ℕ) (dfa : DfaValue) (first tree : TreeValue)
    (waits : List Waiting) : Type 0 where
  pub under : IsUnderWay values (step_of dfa) first tree
  pub can : AreOpen values dfa tree waits

-- a tree on which a search can begin; no place is reported yet
pub record CanBegin (values : EdgeId → Option ℕ) (dfa : DfaValue) (tree : TreeValue)
    (search : SearchValue) : Type 0 where
  pub ready : IsReady values dfa tree tree search.waiting
  pub none : search.shifts ≡ []

-- the try can be taken, and the search has come to its value
pub record IsTaken (values : EdgeId → Option ℕ) (dfa : DfaValue) (tree : TreeValue)
    (search : SearchValue) (waiting : Waiting) : Type 0 where
  pub can : IsOpen values dfa tree waiting
  pub level : waiting.value ≡ search.level

-- these places have at least this value
abbrev pub AreFirm : TreeValue → ℕ → List NodeId → Type 0
AreFirm tree level ids = All (λ (id : NodeId). IsAtLeast level (value_of tree id)) ids

-- the steps so far are at most the edges that leave the nodes that rose so far; these have at least
-- the level as value, so that they aren't raised again
pub record IsCounted (store : Edges) (first tree : TreeValue) (nodes : List NodeId)
    (level start steps : ℕ) : Type 0 where
  pub apart : AllPairs ◌≢◌ nodes
  pub risen : All (IsRisen first tree) nodes
  pub firm : AreFirm tree level nodes
  pub few : steps ≤ start + count_outs store nodes

-- nothing was raised, and no try more waits; or one place more is reported
abbrev pub RaisesOnce : SearchValue → SearchValue → TreeValue → TreeValue → Type 0
RaisesOnce old new before after =
    ((new ≡ old) × (after.puts ≡ before.puts)) ⊎ (length new.shifts ≡ length old.shifts + 1)
