-- The ends that come or go with a change of a table.
use Rattle.std.specs.Prelude.{◌≡◌, ◌≢◌, ◌↔◌, ◌⊎◌, ℕ, List, Contains, AllPairs, IsPermutation}
use Rattle.std.specs.Prelude.{Option, None, Some}
use Rattle.std.specs.List.{IsDistinct}
use Rattle.delta_tree.specs.declared.node.NodeId.{NodeId}
use Rattle.delta_tree.specs.declared.node.Node.{Node}
use Rattle.place_table.specs.declared.gain.Lost.{Lost}
use Rattle.place_table.specs.Losses.{same_lost}
use Rattle.place_table.specs.Table.{TableValue, node_at, tree_in}
use Rattle.source_tree.specs.Ends.{HasOutcome, end_in}
use Rattle.source_tree.specs.declared.change.EndChange.{EndChange}

-- the ends that came or went with the last change
pub record EndLogValue : Type 0 where
  pub log : List EndChange

-- the end of a root and a vertex in a table, where these are the final states
abbrev pub end_at : List ℕ → TableValue → ℕ → ℕ → Option ℕ
end_at finals table root vertex = end_in finals (tree_in table root) vertex

-- not of the same root and vertex
abbrev pub AreApart : EndChange → EndChange → Type 0
AreApart first second = (first.root ≢ second.root) ⊎ (first.vertex ≢ second.vertex)

-- the list has exactly the ends that went or came in any tree, each root and vertex once
pub record AreEndChangesIn (finals : List ℕ) (old new : TableValue) (log : List EndChange)
    : Type 0 where
  pub exact : (each : EndChange) → Contains log each
      ↔ HasOutcome each.outcome
      (end_at finals old each.root each.vertex) (end_at finals new each.root each.vertex)
  pub once : AllPairs AreApart log

-- the root had a node of this value at the place, and has none there any more
abbrev pub IsGone : TableValue → TableValue → Lost → Type 0
IsGone old new lost =
    (node : Node) × (node_at old lost.root lost.id ≡ Some node) × (node.value ≡ lost.before)
    × (node_at new lost.root lost.id ≡ None)

-- the list has exactly the nodes that went, each once, with the value that it had; and none came
pub record AreGone (old new : TableValue) (gone : List Lost) : Type 0 where
  pub exact : (lost : Lost) → Contains gone lost ↔ IsGone old new lost
  pub once : IsDistinct same_lost gone
  pub none : (root : ℕ) (id : NodeId) → node_at old root id ≡ None → node_at new root id ≡ None

-- two logs of one change have the same ends, in one order or another
abbrev pub LogsAreOne : Type 0
LogsAreOne = (finals : List ℕ) (old new : TableValue) (first second : List EndChange) →
    AreEndChangesIn finals old new first → AreEndChangesIn finals old new second →
    IsPermutation first second
