-- The ways by which a node can come back into a tree.
use Rattle.std.specs.Prelude.{◌≡◌, ℕ, ◌≤◌, List, [], ◌∷◌, length, sum_by, Contains, Option}
use Rattle.std.specs.Prelude.{None, Some, option_map}
use Rattle.edge_store.specs.declared.edge.EdgeId.{EdgeId}
use Rattle.edge_store.specs.Edges.{Edges, ins_of}
use Rattle.delta_tree.specs.declared.node.NodeId.{NodeId}
use Rattle.delta_tree.specs.declared.node.Try.{Try}
use Rattle.delta_tree.specs.Nodes.{TreeValue, node_id}
use Rattle.delta_tree.specs.Changes.{Carries}
use Rattle.tree_insert.specs.Best.{IsAtLeast}
use Rattle.tree_insert.specs.Trees.{Gives, IsValid}
use Rattle.tree_delete.specs.declared.entry.TreeEntry.{TreeEntry}

-- the value of an entry, where there is one
abbrev pub value_in : Option TreeEntry → Option ℕ
value_in entry = option_map (λ (each : TreeEntry). each.value) entry

-- its step, where there is one
abbrev pub steps_in : Option TreeEntry → List Try
steps_in None = []
steps_in (Some entry) = entry.step ∷ []

-- the entry leads to the place by this edge, from the root or a node of at least its value
pub record IsEntryBy (step : ℕ → ℕ → Option ℕ) (tree : TreeValue) (id : NodeId) (edge : EdgeId)
    (value : ℕ) (entry : TreeEntry) : Type 0 where
  pub from : entry.step.from.vertex ≡ edge.from
  pub edge_is : entry.step.edge ≡ edge
  pub to : entry.step.to ≡ id
  pub leads : step entry.step.from.state edge.label ≡ Some id.state
  pub carries : Carries tree entry.step.from entry.value
  pub lower : entry.value ≤ value

-- the entry is a valid try that gives the place its value
pub record IsEntry (values : EdgeId → Option ℕ) (step : ℕ → ℕ → Option ℕ) (tree : TreeValue)
    (id : NodeId) (entry : TreeEntry) : Type 0 where
  pub valid : IsValid values step tree entry.step
  pub to : entry.step.to ≡ id
  pub gives : Gives values tree entry.step entry.value

-- from the state, the edge leads from the root or a node of at least this number to the place
pub record CanEnter (values : EdgeId → Option ℕ) (step : ℕ → ℕ → Option ℕ) (tree : TreeValue)
    (id : NodeId) (edge : EdgeId) (before number : ℕ) : Type 0 where
  pub to : edge.to ≡ id.vertex
  pub leads : step before edge.label ≡ Some id.state
  pub carries : Carries tree (node_id edge.from before) number
  pub edge_is : IsAtLeast number (values edge)

-- for each way into one of the places the list has a try that gives this place as much
abbrev pub HasEntries : (EdgeId → Option ℕ) → (ℕ → ℕ → Option ℕ) → TreeValue → List NodeId →
    List Try → Type 0
HasEntries values step tree ids tries =
    (id : NodeId) (edge : EdgeId) (before number : ℕ) →
    Contains ids id → CanEnter values step tree id edge before number →
    (each : Try) × Contains tries each × (each.to ≡ id) × Gives values tree each number

-- the number of edges that end at the vertices of these nodes, for each node
abbrev pub count_ins : Edges → List NodeId → ℕ
count_ins store ids = sum_by (λ (id : NodeId). length (ins_of store id.vertex)) ids
