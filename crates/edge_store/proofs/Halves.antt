-- Equal edges and half edges.
use Rattle.std.proofs.Common.{◌≡◌, Bool, true, false, ◌&&◌, ◌==◌, refl, sym, ap₂, true≢false, eq-eqb, rules}
use Rattle.std.proofs.lemmas.Bool.{eqb-true}
use Rattle.std.specs.Cmp.{IsEquivalence}
use Rattle.std.specs.Cmp.Rules.{comparing}
use Rattle.edge_store.specs.declared.edge.EdgeId.{EdgeId}
use Rattle.edge_store.specs.declared.edge.HalfEdge.{HalfEdge}
use Rattle.edge_store.specs.Edges.{same_half, same_edge}

-- both parts of a test that passes
pub both : (a b : Bool) → (a && b) ≡ true → (a ≡ true) × (b ≡ true)
both true true is = (refl, refl)
both true false is = absurd (true≢false (sym is))
both false b is = absurd (true≢false (sym is))

-- a test of three parts, from the other end
pub turned : (a b c : Bool) → (a && (b && c)) ≡ (c && (b && a))
turned true true true = refl
turned true true false = refl
turned true false true = refl
turned true false false = refl
turned false true true = refl
turned false true false = refl
turned false false true = refl
turned false false false = refl

-- equal half edges are one
pub same_half_is : (a b : HalfEdge) → same_half a b ≡ true → a ≡ b
same_half_is a b is =
    let parts : ((a.label == b.label) ≡ true) × ((a.far == b.far) ≡ true) = both (a.label == b.label) (a.far == b.far) is in
    λ i. record { label = eqb-true a.label b.label parts.0 i; far = eqb-true a.far b.far parts.1 i }

-- equal edges are one
pub same_edge_is : (a b : EdgeId) → same_edge a b ≡ true → a ≡ b
same_edge_is a b is =
    let parts : ((a.from == b.from) ≡ true) × (((a.label == b.label) && (a.to == b.to)) ≡ true) =
    both (a.from == b.from) ((a.label == b.label) && (a.to == b.to)) is in
    let rest : ((a.label == b.label) ≡ true) × ((a.to == b.to) ≡ true) = both (a.label == b.label) (a.to == b.to) parts.1 in
    λ i. record { from = eqb-true a.from b.from parts.0 i; label = eqb-true a.label b.label rest.0 i; to = eqb-true a.to b.to rest.1 i }

-- the equality of half edges is one
pub same_half_laws : IsEquivalence same_half
same_half_laws = search (comparing, rules)

-- an edge equals itself
pub same_edge_itself : (edge : EdgeId) → same_edge edge edge ≡ true
same_edge_itself edge =
    ap₂ (λ a b. a && b) (eq-eqb edge.from edge.from refl)
    (ap₂ (λ a b. a && b) (eq-eqb edge.label edge.label refl) (eq-eqb edge.to edge.to refl))
