-- Trees of best paths, and what a search changes in them.
use Rattle.std.specs.Prelude.{◌≡◌, ◌≢◌, ℕ, ◌+◌, ◌^◌, ◌<◌, ◌≤◌, ◌⊎◌, List, length, sum_by, All}
use Rattle.std.specs.Prelude.{AllPairs, Contains, Option, Some, IsSome}
use Rattle.edge_store.specs.declared.edge.EdgeId.{EdgeId}
use Rattle.edge_store.specs.Edges.{Edges, outs_of}
use Rattle.delta_tree.specs.declared.node.NodeId.{NodeId}
use Rattle.delta_tree.specs.declared.node.Try.{Try}
use Rattle.delta_tree.specs.declared.node.Node.{Node}
use Rattle.delta_tree.specs.Nodes.{TreeValue, Joins, node_id, node_of, value_of, root_id}
use Rattle.delta_tree.specs.Paths.{LeadsUp}
use Rattle.delta_tree.specs.Changes.{Carries, Raises}
use Rattle.tree_insert.specs.Best.{IsAtLeast, IsWay, IsBest, IsLeast}

-- ---- trees

-- each node's own path is one of edges with values, leads the automaton from the state 0 to the
-- state of the node, and has no value below that of the node
abbrev pub HasOwnWays : (EdgeId → Option ℕ) → (ℕ → ℕ → Option ℕ) → TreeValue → Type 0
HasOwnWays values step tree =
    (id : NodeId) (node : Node) (path : List EdgeId) →
    node_of tree id ≡ Some node → LeadsUp tree id path →
    IsWay values step tree.root id.vertex id.state node.value path

-- each vertex and state has its best as its value, so that a node stands exactly where a path
-- leads; and the value of a node is the least on its own path, which leads there
pub record IsOptimal (values : EdgeId → Option ℕ) (step : ℕ → ℕ → Option ℕ) (tree : TreeValue)
    : Type 0 where
  pub best : (id : NodeId) →
      IsBest values step tree.root id.vertex id.state (value_of tree id)
  pub paths : HasOwnWays values step tree
  pub least : (id : NodeId) (node : Node) (path : List EdgeId) →
      node_of tree id ≡ Some node → LeadsUp tree id path → IsLeast values path node.value

-- ---- tries

-- a try from the root or a node, by an edge with a value to the edge's target and the state to
-- which the automaton's step with the edge's label leads
pub record IsValid (values : EdgeId → Option ℕ) (step : ℕ → ℕ → Option ℕ) (tree : TreeValue)
    (each : Try) : Type 0 where
  pub from : (each.from ≡ root_id tree) ⊎ IsSome (node_of tree each.from)
  pub edge : IsSome (values each.edge)
  pub joins : Joins each.from each.edge each.to
  pub leads : step each.from.state each.edge.label ≡ Some each.to.state

-- a try gives its target a value that is at most that of its edge and, but for the root, that of
-- the node from which it comes
pub record Gives (values : EdgeId → Option ℕ) (tree : TreeValue) (each : Try) (number : ℕ)
    : Type 0 where
  pub from : Carries tree each.from number
  pub edge : IsAtLeast number (values each.edge)

-- the try could raise its target to this value, or make it a node
pub record CanRaise (values : EdgeId → Option ℕ) (step : ℕ → ℕ → Option ℕ) (tree : TreeValue)
    (each : Try) (number : ℕ) : Type 0 where
  pub valid : IsValid values step tree each
  pub gives : Gives values tree each number
  pub lower : IsAtLeast number (value_of tree each.to) → ⊥

-- all tries that could raise their target are in the list
abbrev pub HasAll : (EdgeId → Option ℕ) → (ℕ → ℕ → Option ℕ) → TreeValue → List Try → Type 0
HasAll values step tree tries =
    (each : Try) (number : ℕ) → CanRaise values step tree each number → Contains tries each

-- for each try that could raise its target the list has one that gives this target as much
abbrev pub HasBest : (EdgeId → Option ℕ) → (ℕ → ℕ → Option ℕ) → TreeValue → List Try → Type 0
HasBest values step tree tries =
    (each : Try) (number : ℕ) → CanRaise values step tree each number →
    (other : Try)
    × Contains tries other × (other.to ≡ each.to) × Gives values tree other number

-- ---- one edge raised

-- the edge has at least the value that it had, and all others the value that they had
pub record IsRaised (old new : EdgeId → Option ℕ) (edge : EdgeId) : Type 0 where
  pub rises : (number : ℕ) → IsAtLeast number (old edge) → IsAtLeast number (new edge)
  pub others : (each : EdgeId) → each ≢ edge → new each ≡ old each

-- the tree was optimal before this edge was raised
abbrev pub WasOptimal : (EdgeId → Option ℕ) → (ℕ → ℕ → Option ℕ) → TreeValue → EdgeId → Type 0
WasOptimal values step tree edge =
    (before : EdgeId → Option ℕ) × IsOptimal before step tree × IsRaised before values edge

-- each node of the tree at the vertex has its state among these
abbrev pub CoversStates : TreeValue → ℕ → List ℕ → Type 0
CoversStates tree vertex states =
    (state : ℕ) (node : Node) → node_of tree (node_id vertex state) ≡ Some node →
    Contains states state

-- the edge leaves the vertex of the root or of a node, and the automaton has a step by its label
-- from the state there
pub record GoesOn (step : ℕ → ℕ → Option ℕ) (tree : TreeValue) (edge : EdgeId) : Type 0 where
  pub id : NodeId
  pub place : (id ≡ root_id tree) ⊎ IsSome (node_of tree id)
  pub leaves : id.vertex ≡ edge.from
  pub state : ℕ
  pub leads : step id.state edge.label ≡ Some state

-- ---- what a search changes

-- the same root, and no fewer puts, but fewer than 2 ^ 64 more
pub record IsLater (old new : TreeValue) : Type 0 where
  pub root : new.root ≡ old.root
  pub puts : old.puts ≤ new.puts
  pub few : new.puts < old.puts + 2 ^ 64

-- a node that stood before with the value that it has now stays as it was, with its parent, its
-- parent edge and its stamp; each other node has a stamp that is at least the number of puts before
pub record Keeps (old new : TreeValue) : Type 0 where
  pub same : (id : NodeId) (before after : Node) →
      node_of old id ≡ Some before → node_of new id ≡ Some after → before.value ≡ after.value →
      after ≡ before
  pub fresh : (id : NodeId) (after : Node) →
      node_of new id ≡ Some after →
      ((before : Node) → node_of old id ≡ Some before → before.value ≢ after.value) →
      old.puts ≤ after.stamp

-- a node that is new, or has a higher value than before
abbrev pub IsRisen : TreeValue → TreeValue → NodeId → Type 0
IsRisen old new id =
    (node : Node) × (node_of new id ≡ Some node) × Raises old id node.value

-- the number of edges that leave the vertices of these nodes, for each node
abbrev pub count_outs : Edges → List NodeId → ℕ
count_outs store ids = sum_by (λ (id : NodeId). length (outs_of store id.vertex)) ids

-- the steps are at most the edges that leave the nodes that are new or raised, each node once
pub record CountsOuts (store : Edges) (old new : TreeValue) (start steps : ℕ) : Type 0 where
  pub nodes : List NodeId
  pub apart : AllPairs ◌≢◌ nodes
  pub risen : All (IsRisen old new) nodes
  pub few : steps ≤ start + count_outs store nodes
