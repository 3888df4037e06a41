-- What a forest keeps between its changes. No public contract cites this file.
use Rattle.std.specs.Prelude.{◌≡◌, ◌≢◌, ◌↔◌, ℕ, ◌*◌, ◌^◌, ◌≤◌, Bool, List, [], map, Option, Some, IsSome}
use Rattle.edge_store.specs.declared.edge.EdgeId.{EdgeId}
use Rattle.edge_store.specs.Edges.{Edges, value_of as value_in}
use Rattle.dfa_table.specs.DfaValue.{DfaValue, step_of}
use Rattle.delta_tree.specs.declared.node.NodeId.{NodeId}
use Rattle.delta_tree.specs.declared.node.Node.{Node}
use Rattle.delta_tree.specs.Nodes.{TreeValue, node_of, IsTree}
use Rattle.tree_insert.specs.Trees.{IsOptimal}
use Rattle.source_tree.specs.declared.change.EndChange.{EndChange}
use Rattle.source_tree.specs.Ends.{SourceValue}
use Rattle.source_index.specs.Holders.{Holds}
use Rattle.source_index.specs.Dues.{DuesValue, due_of}
use Rattle.source_table.specs.Sources.{AreApart, source_in}
use Rattle.delta_forest.specs.Forest.{ForestValue}
use Rattle.delta_forest.specs.declared.index.Index.{Index}

-- the tree of the root has this node
pub record HasNode (sources : List SourceValue) (root : ℕ) (id : NodeId) : Type 0 where
  pub source : SourceValue
  pub node : Node
  pub found : source_in sources root ≡ Some source
  pub there : node_of source.tree id ≡ Some node

-- a root's number is at most the value of each node
abbrev pub IsDueFor : DuesValue → ℕ → TreeValue → Type 0
IsDueFor dues root tree = (id : NodeId) (node : Node) → node_of tree id ≡ Some node →
    (number : ℕ) × (due_of dues root ≡ Some number) × (number ≤ node.value)

-- a source after so many changes: its tree is optimal for the values
pub record IsSound (values : EdgeId → Option ℕ) (step : ℕ → ℕ → Option ℕ) (calls : ℕ)
    (source : SourceValue) : Type 0 where
  pub tree : IsTree source.tree
  pub optimal : IsOptimal values step source.tree
  pub puts : source.tree.puts ≤ calls * 2 ^ 64

-- the sources are sound and have nodes, and each edge that leaves the start has one; each node is
-- held, and nothing else is; each root with nodes has a number that is at most their values
pub record IsKept (dfa : DfaValue) (store : Edges) (calls : ℕ) (index : Index) : Type 0 where
  pub apart : AreApart index.sources
  pub sound : (root : ℕ) (source : SourceValue) → source_in index.sources root ≡ Some source →
      IsSound (value_in store) (step_of dfa) calls source
  pub some : (root : ℕ) (source : SourceValue) → source_in index.sources root ≡ Some source →
      source.tree.nodes ≢ []
  pub sources : (edge : EdgeId) (value state : ℕ) →
      value_in store edge ≡ Some value → step_of dfa 0 edge.label ≡ Some state →
      IsSome (source_in index.sources edge.from)
  pub held : (root : ℕ) (id : NodeId) →
      Holds index.holders id root ↔ HasNode index.sources root id
  pub due : (root : ℕ) (source : SourceValue) → source_in index.sources root ≡ Some source →
      IsDueFor index.dues root source.tree

-- the trees of these sources
abbrev pub trees_of : List SourceValue → List TreeValue
trees_of sources = map (λ (each : SourceValue). each.tree) sources

-- the forest over these parts
abbrev pub forest_with : DfaValue → Edges → List SourceValue → ℕ → Bool → List ℕ →
    List EndChange → ForestValue
forest_with dfa store sources calls broken touched log = record {
  dfa = dfa;
  store = store;
  trees = trees_of sources;
  calls = calls;
  broken = broken;
  touched = touched;
  log = log;
}
