-- For each node of a graph the nodes that have a step to it. No public contract cites this file.
use Rattle.std.specs.Prelude.{◌≡◌, ℕ, ◌<◌, List, [], length, Contains, Some, slice_index_or, ◌⊎◌, ◌↔◌}
use Rattle.state_pairs.specs.Goals.{GoalGraph}

-- the nodes that are listed for this one
abbrev pub sources_at : List (List ℕ) → ℕ → List ℕ
sources_at lists target = slice_index_or lists target []

-- as many lists, all without nodes
pub record AreEmpty (count : ℕ) (lists : List (List ℕ)) : Type 0 where
  pub as_many : length lists ≡ count
  pub each : (target : ℕ) → sources_at lists target ≡ []

-- a label below the bound leads from the node to the target
abbrev pub HasStep : GoalGraph → ℕ → ℕ → ℕ → Type 0
HasStep graph bound node target =
    (label : ℕ) × (label < bound) × (graph.leads node label ≡ Some target)

-- the node is added for the target
pub record AddsSource (target node : ℕ) (before after : List (List ℕ)) : Type 0 where
  pub as_many : length after ≡ length before
  pub each : (other source : ℕ) → Contains (sources_at after other) source
      ↔ (Contains (sources_at before other) source ⊎ ((source ≡ node) × (other ≡ target)))

-- the node is added for each node that a label below the bound leads to from it
pub record AddsSteps (graph : GoalGraph) (node bound : ℕ) (before after : List (List ℕ))
    : Type 0 where
  pub as_many : length after ≡ length before
  pub each : (target source : ℕ) → Contains (sources_at after target) source
      ↔ (Contains (sources_at before target) source
      ⊎ ((source ≡ node) × HasStep graph bound node target))

-- of the nodes below the count, for each node those with a step to it
pub record AreSources (graph : GoalGraph) (count : ℕ) (lists : List (List ℕ)) : Type 0 where
  pub as_many : length lists ≡ graph.node_count
  pub each : (target source : ℕ) → Contains (sources_at lists target) source
      ↔ ((source < count) × HasStep graph graph.label_count source target)
