-- Nodes that all trees of a table lost.
use Rattle.std.specs.Prelude.{◌≡◌, ℕ, ◌≤◌, ◌↔◌, Bool, ◌&&◌, ◌==◌, List, Some, Contains}
use Rattle.std.specs.List.{IsDistinct}
use Rattle.delta_tree.specs.declared.node.Node.{Node}
use Rattle.delta_tree.specs.Nodes.{same_node}
use Rattle.delta_tree.specs.Changes.{Expires}
use Rattle.place_table.specs.declared.gain.Lost.{Lost}
use Rattle.place_table.specs.Table.{TableValue, tree_in, node_at}

-- the nodes of all trees whose value is at most the clock are gone, and the others as they stood
abbrev pub AllExpire : TableValue → TableValue → ℕ → Type 0
AllExpire old new now = (root : ℕ) → Expires (tree_in old root) (tree_in new root) now

-- the node of a root at a place had this value, which is at most the clock
abbrev pub IsLostBy : TableValue → ℕ → Lost → Type 0
IsLostBy table now lost =
    (node : Node) × (node_at table lost.root lost.id ≡ Some node) × (node.value ≡ lost.before)
    × (node.value ≤ now)

-- the same root at the same place
abbrev pub same_lost : Lost → Lost → Bool
same_lost first second = (first.root == second.root) && same_node first.id second.id

-- the list has exactly the nodes whose value is at most the clock, each once
pub record AreLostBy (table : TableValue) (now : ℕ) (all : List Lost) : Type 0 where
  pub exact : (lost : Lost) → Contains all lost ↔ IsLostBy table now lost
  pub once : IsDistinct same_lost all
