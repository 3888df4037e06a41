-- Edges of which equal ones are left out.
use Rattle.std.proofs.Common.{◌≡◌, Bool, List, [], ◌∷◌, Bor, refl, sym, ap, subst, ◌∙◌, inl, inr}
use Rattle.std.proofs.Common.{⊎_elim}
use Rattle.std.specs.Prelude.{◌↔◌, Contains}
use Rattle.std.specs.Cmp.{IsEquivalence}
use Rattle.std.specs.List.{dedup}
use Rattle.std.specs.List.Sorted.{IsPermutation}
use Rattle.std.proofs.lemmas.List.Kept.{Any-dedup, Contains-from_dedup}
use Rattle.std.proofs.lemmas.List.Sorted.{Contains-permutation, IsPermutation-sym}
use Rattle.rpq_base.specs.Same.{same_edge}
use Rattle.rpq_base.specs.declared.data.Edge.{Edge}
use Rattle.rpq_base.proofs.Equality.{same_tests, edges as edge_test}
use Rattle.rpq_base.proofs.Members.{cons_members, none_in}
use Rattle.rpq_model.specs.Relations.{values}

-- whether two references point to equal edges
abbrev pub same_value : Bor Edge → Bor Edge → Bool
same_value first second = same_edge first.now second.now

same_value_equivalence : IsEquivalence same_value
same_value_equivalence = record {
  refl = λ edge. (edge_test edge.now edge.now).1 refl;
  symm = λ first second. same_tests (same_value first second) (same_value second first) (
    (λ e. (edge_test second.now first.now).1 (sym ((edge_test first.now second.now).0 e))),
    (λ e. (edge_test first.now second.now).1 (sym ((edge_test second.now first.now).0 e))),
  );
  congr = λ first second third e. ap (λ (edge : Edge). same_edge edge third.now) ((edge_test first.now second.now).0 e);
}

-- the edges are those that the references point to
pub pointed_to : (edges : List (Bor Edge)) (each : Bor Edge) → Contains edges each →
    Contains (values edges) each.now
pointed_to [] each member = absurd (none_in each member)
pointed_to (first ∷ edges) each member = (cons_members first.now (values edges) each.now).1 (⊎_elim
    (λ here. inl (ap (λ (one : Bor Edge). one.now) here))
    (λ later. inr (pointed_to edges each later))
    ((cons_members first edges each).0 member))

-- one of the references points to the edge
pub record IsPointedTo (edges : List (Bor Edge)) (edge : Edge) : Type 0 where
  pub each : Bor Edge
  pub member : Contains edges each
  pub is : each.now ≡ edge

pub points_to : (edges : List (Bor Edge)) (edge : Edge) → Contains (values edges) edge →
    IsPointedTo edges edge
points_to [] edge member = absurd (none_in edge member)
points_to (first ∷ edges) edge member = ⊎_elim
    (λ here. record { each = first; member = (cons_members first edges first).1 (inl refl); is = here })
    (λ later.
    let found = points_to edges edge later in
    record { each = found.each; member = (cons_members first edges found.each).1 (inr found.member); is = found.is })
    ((cons_members first.now (values edges) edge).0 member)

-- edges in another order, of which equal neighbours are left out, are the same edges
pub distinct_are : (edges sorted distinct : List (Bor Edge)) → IsPermutation edges sorted →
    distinct ≡ dedup same_value sorted →
    (edge : Edge) → Contains (values distinct) edge ↔ Contains (values edges) edge
distinct_are edges sorted distinct moved is edge = (
  (λ member.
      let found = points_to distinct edge member in
      let kept = subst (λ (all : List (Bor Edge)). Contains all found.each) is found.member in
      let there = Contains-permutation sorted edges found.each
      (IsPermutation-sym edges sorted moved)
      (Contains-from_dedup same_value sorted found.each kept) in
      subst (Contains (values edges)) found.is (pointed_to edges found.each there)),
  (λ member.
      let found = points_to edges edge member in
      let there = Contains-permutation edges sorted found.each moved found.member in
      let kept = Any-dedup same_value_equivalence sorted found.each there in
      let other = kept.1 in
      let in_distinct = subst (λ (all : List (Bor Edge)). Contains all other) (sym is) (kept.0, kept.2, kept.3) in
      let same = (edge_test found.each.now other.now).0 kept.4 in
      subst (Contains (values distinct)) (sym same ∙ found.is) (pointed_to distinct other in_distinct)),
)
