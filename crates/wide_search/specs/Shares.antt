-- The trees of a share of the roots.
use Rattle.std.specs.Prelude.{◌≡◌, ℕ, ◌%◌, Option, None}
use Rattle.edge_store.specs.declared.edge.EdgeId.{EdgeId}
use Rattle.delta_tree.specs.declared.node.NodeId.{NodeId}
use Rattle.tree_insert.specs.Trees.{IsOptimal}
use Rattle.place_table.specs.Table.{TableValue, node_at, tree_in}
use Rattle.wide_search.specs.declared.share.Share.{Share}

-- the share has the root
abbrev pub Owns : Share → ℕ → Type 0
Owns share root = root % share.count ≡ share.index

-- the table has no nodes of roots that the share doesn't have
abbrev pub HasNoOthers : Share → TableValue → Type 0
HasNoOthers share table =
    (root : ℕ) → (Owns share root → ⊥) → (id : NodeId) → node_at table root id ≡ None

-- the table has the trees of the share: those of its roots are optimal, and others have no nodes
pub record HasShare (share : Share) (values : EdgeId → Option ℕ) (step : ℕ → ℕ → Option ℕ)
    (table : TableValue) : Type 0 where
  pub optimal : (root : ℕ) → Owns share root → IsOptimal values step (tree_in table root)
  pub others : HasNoOthers share table
