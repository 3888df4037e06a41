-- The steps that a search counts.
use Rattle.std.specs.Prelude.{◌≢◌, ℕ, ◌+◌, ◌≤◌, List, length, sum_by, All, AllPairs}
use Rattle.std.specs.List.Sorted.{IsStrictlySortedBy}
use Rattle.std.specs.Ordering.{nat_cmp}
use Rattle.edge_store.specs.Edges.{Edges}
use Rattle.delta_tree.specs.declared.node.NodeId.{NodeId}
use Rattle.delta_tree.specs.Nodes.{TreeValue}
use Rattle.tree_insert.specs.Trees.{IsRisen, count_outs}
use Rattle.place_table.specs.Table.{AreStates, TableValue, tree_in}

-- some root has a node at the place that is new, or has a higher value than before
abbrev pub IsRisenIn : (ℕ → TreeValue) → (ℕ → TreeValue) → NodeId → Type 0
IsRisenIn first now id = (root : ℕ) × IsRisen (first root) (now root) id

-- the steps are at most the edges that leave places where some root rose, each place once
pub record CountsPlaces (store : Edges) (first now : ℕ → TreeValue) (start steps : ℕ) : Type 0 where
  pub places : List NodeId
  pub apart : AllPairs ◌≢◌ places
  pub risen : All (IsRisenIn first now) places
  pub few : steps ≤ start + count_outs store places

-- the same of so many searches at most, for each of which a place may count once
pub record CountsWide (store : Edges) (first now : ℕ → TreeValue) (searches start steps : ℕ)
    : Type 0 where
  pub lists : List (List NodeId)
  pub number : length lists ≤ searches
  pub apart : All (λ (places : List NodeId). AllPairs ◌≢◌ places) lists
  pub risen : All (λ (places : List NodeId). All (IsRisenIn first now) places) lists
  pub few : steps ≤ start + sum_by (count_outs store) lists

-- the same of one search from the root of a vertex and one for each state with which a node stood
-- there
pub record CountsSearches (store : Edges) (old new : TableValue) (vertex start steps : ℕ) : Type 0
  where
    pub states : List ℕ
    pub are : AreStates old vertex states
    pub once : IsStrictlySortedBy nat_cmp states
    pub counts : CountsWide store (tree_in old) (tree_in new) (length states + 1) start steps
