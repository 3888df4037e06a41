-- The pairs of one label.
use Rattle.std.proofs.Common.{◌≡◌, List, [], ◌∷◌, fold, sym, subst, inr, ⊎_elim}
use Rattle.std.specs.Prelude.{◌↔◌, Contains}
use Rattle.rpq_base.specs.Same.{same_label}
use Rattle.rpq_base.specs.declared.data.Label.{Label}
use Rattle.rpq_base.specs.declared.data.Edge.{Edge}
use Rattle.rpq_base.specs.declared.data.Pair.{Pair}
use Rattle.rpq_model.specs.declared.mode.Mode.TheVariants.{Arbitrary}
use Rattle.rpq_model.specs.Answers.{IsJoinedBy}
use Rattle.rpq_model.specs.Relations.{between}
use Rattle.rpq_base.proofs.Equality.{labels}
use Rattle.rpq_base.proofs.Orders.{pair_cmp_exact}
use Rattle.rpq_base.proofs.Members.{none_in, fold_members}
use Rattle.rpq_model.proofs.Composing.{with_edge}
use Rattle.rpq_model.proofs.Paths.{one_label_joins, joined_by_edge}

-- going through the edges finds what one label joins
pub edges_join : (edges : List Edge) (label : Label) (found : List Pair) →
    found ≡ fold (with_edge label) [] edges →
    (pair : Pair) → Contains found pair ↔ IsJoinedBy edges (λ word. word ≡ label ∷ []) Arbitrary pair
edges_join edges label found is pair =
    let members = fold_members pair_cmp_exact edges (λ (edge : Edge). same_label edge.label label)
    (λ (edge : Edge). between edge.from edge.to) [] pair in (
      (λ member. ⊎_elim
          (λ none. absurd (none_in pair none))
          (λ given. joined_by_edge edges label pair given.element given.member ((labels given.element.label label).0 given.passes) given.is)
          (members.0 (subst (λ (pairs : List Pair). Contains pairs pair) is member))),
      (λ joined.
          let edge = one_label_joins edges label pair joined in
          subst (λ (pairs : List Pair). Contains pairs pair) (sym is)
          (members.1 (inr (record { element = edge.0; member = edge.1; passes = (labels edge.0.label label).1 edge.2; is = edge.3 })))),
    )
