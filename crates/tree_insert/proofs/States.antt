-- The states with which nodes stand.
use Rattle.std.proofs.Common.{◌≡◌, ◌≢◌, ℕ, List, [], ◌∷◌, Option, Some, Contains, refl, subst}
use Rattle.edge_store.specs.declared.edge.EdgeId.{EdgeId}
use Rattle.delta_tree.specs.declared.node.Node.{Node}
use Rattle.delta_tree.specs.declared.node.NodeId.{NodeId}
use Rattle.delta_tree.specs.Nodes.{TreeValue, node_id, node_of}
use Rattle.tree_insert.specs.Best.{IsBest, IsRoute}
use Rattle.tree_insert.specs.Trees.{CoversStates, IsOptimal}
use Rattle.tree_insert.proofs.Nodes.{value_is}

-- the last step of a path leads to its state
last_step : (step : ℕ → ℕ → Option ℕ) (root : ℕ) (path : List EdgeId) (vertex state : ℕ) →
    path ≢ [] → IsRoute step root path vertex state →
    (before label : ℕ) × (step before label ≡ Some state)
last_step step root [] vertex state some leads = absurd (some refl)
last_step step root (edge ∷ path) vertex state some leads = (leads.1.0, edge.label, leads.1.2)

-- a step leads to the state of each node of an optimal tree
led_to : (values : EdgeId → Option ℕ) (step : ℕ → ℕ → Option ℕ) (tree : TreeValue) →
    IsOptimal values step tree → (id : NodeId) (node : Node) → node_of tree id ≡ Some node →
    (before label : ℕ) × (step before label ≡ Some id.state)
led_to values step tree optimal id node is =
    let best : IsBest values step tree.root id.vertex id.state (Some node.value) =
    subst (IsBest values step tree.root id.vertex id.state) (value_is tree id node is)
    (optimal.best id) in
    last_step step tree.root best.is.0 id.vertex id.state best.is.1.some best.is.1.leads

-- so a list of all states to which a step leads has those of the nodes
pub covers_all : (values : EdgeId → Option ℕ) (step : ℕ → ℕ → Option ℕ) (tree : TreeValue)
    (states : List ℕ) → IsOptimal values step tree →
    ((before label state : ℕ) → step before label ≡ Some state → Contains states state) →
    (vertex : ℕ) → CoversStates tree vertex states
covers_all values step tree states optimal all vertex state node is =
    let led = led_to values step tree optimal (node_id vertex state) node is in
    all led.0 led.1 state led.2
