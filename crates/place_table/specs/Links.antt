-- By what nodes hang, and what there is beside the nodes of one root.
use Rattle.std.specs.Prelude.{◌≡◌, ℕ, nat_eq, cond, List, Option, None, map}
use Rattle.delta_tree.specs.declared.node.NodeId.{NodeId}
use Rattle.delta_tree.specs.declared.node.Node.{Node}
use Rattle.place_table.specs.declared.link.Link.{Link}
use Rattle.place_table.specs.Kept.{Placed, kept_at}
use Rattle.place_table.specs.Table.{TableValue, node_at}

-- the node below which a node hangs, and the edge by which it does
abbrev pub link_of : Node → Link
link_of node = record { parent = node.parent; edge = node.edge }

-- the nodes of all roots but the one that is shown
abbrev pub nodes_beside : TableValue → ℕ → NodeId → Option Node
nodes_beside table root id = cond (nat_eq root table.root) None (node_at table root id)

-- the same tree is shown, after as many puts, and the nodes of all other roots are as they were
pub record IsSameBesideShown (old new : TableValue) : Type 0 where
  pub root : new.root ≡ old.root
  pub puts : new.puts ≡ old.puts
  pub others : (other : ℕ) → (old.root ≡ other → ⊥) → (id : NodeId) →
      node_at new other id ≡ node_at old other id

-- the vertices and states of places
abbrev pub placed_ids : List Placed → List NodeId
placed_ids places = map (λ (place : Placed). place.id) places

-- of each other root the same is kept
abbrev pub KeepsKept : List Placed → List Placed → ℕ → Type 0
KeepsKept old new root =
    (other : ℕ) → (root ≡ other → ⊥) → (id : NodeId) → kept_at new other id ≡ kept_at old other id
