-- How wide an edge is at a state, while an edge that was raised is taken on at one state after
-- another; and trees in which no edge can raise a value.
use Rattle.std.specs.Prelude.{◌≡◌, ℕ, Bool, ◌&&◌, ◌==◌, cond, List, Option, Some}
use Rattle.std.specs.List.{list_any}
use Rattle.edge_store.specs.declared.edge.EdgeId.{EdgeId}
use Rattle.edge_store.specs.Edges.{same_edge}
use Rattle.delta_tree.specs.Nodes.{TreeValue, node_id, value_of}
use Rattle.delta_tree.specs.Changes.{Carries}
use Rattle.tree_insert.specs.Best.{IsAtLeast}

-- the values of the edges before the one was raised: it has this value, or none, and each other
-- edge the value that it has
abbrev pub lowered : (EdgeId → Option ℕ) → EdgeId → Option ℕ → EdgeId → Option ℕ
lowered values edge before each = cond (same_edge each edge) before (values each)

-- whether the state is one of those that are still to be searched
abbrev pub is_pending : List ℕ → ℕ → Bool
is_pending pending state = list_any (λ (each : ℕ). each == state) pending

-- the width of an edge at a state: that of the raised edge is what it was before at the states that
-- are still to be searched; each other width is the value of the edge
abbrev pub widths : (EdgeId → Option ℕ) → EdgeId → Option ℕ → List ℕ → ℕ → EdgeId → Option ℕ
widths values edge before pending state each =
    cond (same_edge each edge && is_pending pending state) before (values each)

-- what the root and the nodes could give by edges of these widths is there
abbrev pub IsClosed : (ℕ → EdgeId → Option ℕ) → (ℕ → ℕ → Option ℕ) → TreeValue → Type 0
IsClosed widths step tree =
    (edge : EdgeId) (state number next : ℕ) → Carries tree (node_id edge.from state) number →
    IsAtLeast number (widths state edge) → step state edge.label ≡ Some next →
    IsAtLeast number (value_of tree (node_id edge.to next))
