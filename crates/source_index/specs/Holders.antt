-- The roots of the trees that have a node at a place, which is a vertex with a state.
use Rattle.std.specs.Prelude.{◌≡◌, ◌⊎◌, ◌↔◌, ◌==◌, ℕ, List, [], Contains}
use Rattle.std.specs.Map.{lookup}
use Rattle.std.specs.Option.{unwrap_or}
use Rattle.delta_tree.specs.declared.node.NodeId.{NodeId}
use Rattle.source_index.specs.Vertex.{RootsByState, roots_in}

-- for each vertex the roots that are held at its states
abbrev pub HoldersValue : Type 0
HoldersValue = List (ℕ × RootsByState)

-- those of a vertex
abbrev pub vertex_at : HoldersValue → ℕ → RootsByState
vertex_at holders vertex = unwrap_or (lookup (λ each. vertex == each) holders) []

-- the roots at a place
abbrev pub roots_at : HoldersValue → NodeId → List ℕ
roots_at holders id = roots_in (vertex_at holders id.vertex) id.state

-- the root is held at the place
abbrev pub Holds : HoldersValue → NodeId → ℕ → Type 0
Holds holders id root = Contains (roots_at holders id) root

-- the root is held at the place now, and all others as before
abbrev pub AddsHolder : HoldersValue → HoldersValue → NodeId → ℕ → Type 0
AddsHolder old new id root = (place : NodeId) (each : ℕ) →
    Holds new place each ↔ (Holds old place each ⊎ ((place ≡ id) × (each ≡ root)))

-- the root isn't held at the place any more, and all others are as before
abbrev pub DropsHolder : HoldersValue → HoldersValue → NodeId → ℕ → Type 0
DropsHolder old new id root = (place : NodeId) (each : ℕ) →
    Holds new place each ↔ (Holds old place each × ((place ≡ id) × (each ≡ root) → ⊥))

-- each place has the roots that it had
abbrev pub HoldsSame : HoldersValue → HoldersValue → Type 0
HoldsSame old new = (place : NodeId) (each : ℕ) → Holds new place each ↔ Holds old place each
