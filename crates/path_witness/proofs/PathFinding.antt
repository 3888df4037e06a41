-- The edges of a path are among those of the window.
use Rattle.std.proofs.Common.{◌≡◌, List, [], ◌∷◌, Option, Some, None, refl, ap, ◌∙◌, ⊎_elim}
use Rattle.std.specs.Prelude.{All, Contains}
use Rattle.std.proofs.lemmas.List.Elements.{All-cons, All-nil, All-head, All-tail}
use Rattle.rpq_base.specs.declared.data.Edge.{Edge}
use Rattle.rpq_base.proofs.Members.{cons_members, none_in}
use Rattle.rpq_model.specs.Window.{Placed, Inserts, inserted_edge, inserted_edges}
use Rattle.rpq_model.proofs.Places.{from_found, from_later}

in_inserted : (live : List Placed) (each : Placed) (edge : Edge) → Contains live each → Inserts each.entry.tuple.act edge → Contains (inserted_edges live) edge
in_inserted [] each edge member inserts = absurd (none_in each member)
in_inserted (first ∷ live) each edge member inserts = ⊎_elim
    (λ here.
    from_found (inserted_edge first.entry.tuple.act) (inserted_edges live) edge
    (ap (λ (some : Placed). inserted_edge some.entry.tuple.act) here ∙ inserts))
    (λ later. from_later (inserted_edge first.entry.tuple.act) (inserted_edges live) edge (in_inserted live each edge later inserts))
    ((cons_members first live each).0 member)

pub edges_among : (path live : List Placed) → All (Contains live) path → All (Contains (inserted_edges live)) (inserted_edges path)
edges_among [] live all = All-nil (Contains (inserted_edges live))
edges_among (first ∷ path) live all =
    with_first (inserted_edge first.entry.tuple.act) refl (edges_among path live (All-tail (Contains live) first path all))
  where
    with_first : (found : Option Edge) → inserted_edge first.entry.tuple.act ≡ found → All (Contains (inserted_edges live)) (inserted_edges path) →
        All (Contains (inserted_edges live)) (inserted_edges (first ∷ path))
    with_first None none rest = rw none rest
    with_first (Some edge) some rest =
        rw some (All-cons (Contains (inserted_edges live)) edge (inserted_edges path)
        (in_inserted live first edge (All-head (Contains live) first path all) some) rest)
