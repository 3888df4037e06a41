-- What a table keeps.
use Rattle.std.specs.Prelude.{ℕ, length, List}
use Rattle.due_queue.specs.declared.due.Due.{Due}
use Rattle.delta_tree.specs.Nodes.{TreeValue, IsTree}
use Rattle.place_table.specs.declared.spot.Spot.{Spot}
use Rattle.place_table.specs.Kept.{Placed, seen}
use Rattle.place_table.specs.Queue.{AreNoted}
use Rattle.place_table.specs.Table.{nodes_of}

-- the tree of a root, of which this is kept, after these puts
abbrev pub tree_kept : List Spot → List Placed → ℕ → TreeValue
tree_kept puts places root = record {
  root = root;
  nodes = nodes_of (seen puts places) root;
  puts = length puts;
}

-- each tree is a tree
abbrev pub AreTrees : List Spot → List Placed → Type 0
AreTrees puts places = (root : ℕ) → IsTree (tree_kept puts places root)

-- trees, each of whose nodes is noted
pub record IsSound (puts : List Spot) (places : List Placed) (dues : List (Due Spot)) : Type 0 where
  pub trees : AreTrees puts places
  pub noted : AreNoted places dues
