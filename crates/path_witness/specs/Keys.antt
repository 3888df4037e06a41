-- How edges are compared and hashed as keys. No public contract cites this file.
use Rattle.std.proofs.Common.{ap}
use Rattle.std.specs.Prelude.{◌≡◌, ℕ, true, List, [], ◌∷◌, codes, IsTrue}
use Rattle.std.specs.Cmp.{IsEquivalence, IsPartialEquivalence, decided, partial_equiv_from_equiv}
use Rattle.rpq_base.specs.Same.{same_edge}
use Rattle.rpq_base.specs.declared.data.Edge.{Edge}
use Rattle.rpq_base.proofs.Equality.{edges}

-- the parts of an edge, with a byte between them that no name has
abbrev pub edge_input : Edge → List (List ℕ)
edge_input edge =
    edge.from ∷ codes " " ∷ edge.label.name ∷ codes " " ∷ edge.to ∷ []

-- the test of two edges is an equivalence
pub edges_equivalence : IsEquivalence same_edge
edges_equivalence = decided same_edge edges

pub edges_per : IsPartialEquivalence same_edge
edges_per = partial_equiv_from_equiv edges_equivalence

-- equal edges are hashed alike
pub same_input : (first second : Edge) → IsTrue (same_edge first second) →
    edge_input first ≡ edge_input second
same_input first second same = ap (λ (edge : Edge). edge_input edge) ((edges first second).0 same)

-- what is equal to an edge is equal to the same edges as it
pub same_as_other : (sought first second : Edge) → same_edge sought first ≡ true →
    same_edge sought second ≡ same_edge first second
same_as_other sought first second same =
    ap (λ (edge : Edge). same_edge edge second) ((edges sought first).0 same)
