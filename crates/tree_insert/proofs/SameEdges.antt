-- Edges that are equal, and edges that differ.
use Rattle.std.proofs.Common.{◌≡◌, ◌≢◌, ◌⊎◌, inl, inr, Bool, true, false, refl, sym, ap, ◌∙◌}
use Rattle.std.proofs.lemmas.Bool.{true≢false}
use Rattle.edge_store.specs.declared.edge.EdgeId.{EdgeId}
use Rattle.edge_store.specs.Edges.{same_edge}
use Rattle.delta_tree.proofs.Ids.{same_edge_is, same_edge_itself}

pub edge_cases : (first second : EdgeId) → (first ≡ second) ⊎ (first ≢ second)
edge_cases first second = by (same_edge first second) refl
  where
    by : (b : Bool) → same_edge first second ≡ b → (first ≡ second) ⊎ (first ≢ second)
    by true is = inl (same_edge_is first second is)
    by false is =
        inr (λ same. true≢false
        (sym (ap (λ (e : EdgeId). same_edge first e) (sym same) ∙ same_edge_itself first) ∙ is))
