-- What the definitions are meant to say, as laws.
use Rattle.std.specs.Prelude.{◌≡◌, ℕ, ◌≤◌, ◌↔◌, List, [], Option, Some}
use Rattle.edge_store.specs.declared.edge.EdgeId.{EdgeId}
use Rattle.edge_store.specs.Edges.{Edges, Updates, above, raised, value_of}
use Rattle.delta_tree.specs.declared.node.NodeId.{NodeId}
use Rattle.delta_tree.specs.Nodes.{TreeValue, IsTree}
use Rattle.delta_tree.specs.Changes.{Expires}
use Rattle.tree_insert.specs.Best.{IsRoute, IsWay, IsBest, IsLeast}
use Rattle.tree_insert.specs.Local.{HaveWays, AreSettled}
use Rattle.tree_insert.specs.Trees.{CountsOuts, GoesOn, IsOptimal, IsRaised, IsRisen}

-- a vertex and a state have one best at most
abbrev pub OneBest : Type 0
OneBest = (values : EdgeId → Option ℕ) (step : ℕ → ℕ → Option ℕ) (root vertex state : ℕ)
    (first second : Option ℕ) →
    IsBest values step root vertex state first → IsBest values step root vertex state second →
    first ≡ second

-- a path that leads there is a way for the numbers up to its least value, and for no others
abbrev pub PathsAreWays : Type 0
PathsAreWays = (values : EdgeId → Option ℕ) (step : ℕ → ℕ → Option ℕ)
    (root vertex state least number : ℕ) (path : List EdgeId) →
    IsRoute step root path vertex state → IsLeast values path least →
    IsWay values step root vertex state number path ↔ (number ≤ least)

-- numbers are the best everywhere exactly where each is that of a path and no edge can raise one
abbrev pub BestIsSettled : Type 0
BestIsSettled = (values : EdgeId → Option ℕ) (step : ℕ → ℕ → Option ℕ) (root : ℕ)
    (numbers : ℕ → ℕ → Option ℕ) →
    ((vertex state : ℕ) → IsBest values step root vertex state (numbers vertex state))
    ↔ (HaveWays values step root numbers × AreSettled values step root numbers)

-- after an expiry of the edges and of the tree with the same number the tree is optimal still
abbrev pub ExpiryKeepsOptimal : Type 0
ExpiryKeepsOptimal = (before after : EdgeId → Option ℕ) (step : ℕ → ℕ → Option ℕ)
    (old new : TreeValue) (now : ℕ) →
    ((edge : EdgeId) → after edge ≡ above now (before edge)) →
    Expires old new now → new.root ≡ old.root →
    IsOptimal before step old → IsOptimal after step new

-- a tree without nodes is optimal where no edge leaves its root with a step from the start
abbrev pub BareIsOptimal : Type 0
BareIsOptimal = (values : EdgeId → Option ℕ) (step : ℕ → ℕ → Option ℕ) (tree : TreeValue) →
    tree.nodes ≡ [] →
    ((edge : EdgeId) (value state : ℕ) →
    values edge ≡ Some value → edge.from ≡ tree.root → step 0 edge.label ≡ Some state → ⊥) →
    IsOptimal values step tree

-- where an edge that is raised goes on from no place of the tree, the tree is optimal still
abbrev pub RaiseElsewhereKeepsOptimal : Type 0
RaiseElsewhereKeepsOptimal = (before after : EdgeId → Option ℕ) (step : ℕ → ℕ → Option ℕ)
    (tree : TreeValue) (edge : EdgeId) →
    IsTree tree → IsOptimal before step tree → IsRaised before after edge →
    (GoesOn step tree edge → ⊥) → IsOptimal after step tree

-- what the raise of a store does is a raise of the edge
abbrev pub RaisesAreRaises : Type 0
RaisesAreRaises = (old new : Edges) (edge : EdgeId) (value : ℕ) →
    Updates old new edge (Some (raised (value_of old edge) value)) →
    IsRaised (value_of old) (value_of new) edge

-- where a search raises nothing it counts no step
abbrev pub NoRiseNoStep : Type 0
NoRiseNoStep = (store : Edges) (old new : TreeValue) (start steps : ℕ) →
    CountsOuts store old new start steps → ((id : NodeId) → IsRisen old new id → ⊥) →
    steps ≤ start
