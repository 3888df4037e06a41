-- Sets of the edges that entries delete, each edge by its parts. Private contracts alone cite this.
use Rattle.std.specs.Prelude.{◌≡◌, ℕ, Bool, List}
use Rattle.std.specs.Borrow.{Bor}
use Rattle.std.specs.declared.cmp.Ordering.{Ordering}
use Rattle.std.specs.Ordering.{ordering_then}
use Rattle.std.specs.BTreeSet.{BTreeSet, contains}
use Rattle.rpq_base.specs.Order.{name_cmp, label_cmp}
use Rattle.rpq_base.specs.declared.data.Label.{Label}
use Rattle.rpq_base.specs.declared.data.Edge.{Edge}

-- references to an edge's source, label and target
abbrev pub EdgeKey : Type 0
EdgeKey = Bor (List ℕ) × Bor Label × Bor (List ℕ)

-- the edge of these parts
abbrev pub edge_of : EdgeKey → Edge
edge_of key = record { from = key.0.now; label = key.1.now; to = key.2.now }

-- the order of the set
abbrev pub key_cmp : EdgeKey → EdgeKey → Ordering
key_cmp first second =
    ordering_then (ordering_then (name_cmp first.0.now second.0.now)
    (label_cmp first.1.now second.1.now))
    (name_cmp first.2.now second.2.now)

-- the set holds exactly the edges that pass the test
abbrev pub HoldsEdges : BTreeSet EdgeKey → (Edge → Bool) → Type 0
HoldsEdges set test = (key : EdgeKey) → contains key_cmp set key ≡ test (edge_of key)
