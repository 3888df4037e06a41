-- A list that is sorted, and then loses what equals the element before it: it has the same members,
-- in order, each once.
use Rattle.std.proofs.Common.{◌≡◌, Bool, true, List, Decides, refl, sym, ap, subst, ◌∙◌, Ordering}
use Rattle.std.specs.Prelude.{◌↔◌, Contains}
use Rattle.std.specs.Cmp.{IsTotalOrder, decided}
use Rattle.std.specs.List.{dedup}
use Rattle.std.specs.List.Sorted.{IsPermutation, IsSorted, IsStrictlySortedBy}
use Rattle.std.specs.Ordering.{is_eq, eq_by_cmp}
use Rattle.std.specs.declared.cmp.Ordering.TheVariants.{Less, Equal, Greater}
use Rattle.std.proofs.lemmas.Cmp.{tied_itself}
use Rattle.std.proofs.lemmas.List.Kept.{Contains-dedup, Contains-from_dedup, IsStrictlySortedBy-dedup}
use Rattle.std.proofs.lemmas.List.Sorted.{Contains-permutation, IsPermutation-sym}
use Rattle.std.proofs.lemmas.Map.Lookups.{CmpEqualImpliesEq}
use Rattle.rpq_base.proofs.Equality.{same_tests}

-- a tie is the order `Equal`
pub is_equal : (order : Ordering) → is_eq order ≡ true → order ≡ Equal
is_equal Less e = cc
is_equal Equal e = refl
is_equal Greater e = cc

-- a test that finds the equal elements holds where an order that tells them apart finds a tie
same_where_tied : {X : Type 0} {cmp : X → X → Ordering} (same : X → X → Bool) → ((first second : X) → Decides (same first second) (first ≡ second)) →
    IsTotalOrder cmp → CmpEqualImpliesEq cmp → (first second : X) → same first second ≡ eq_by_cmp cmp first second
same_where_tied {X} {cmp} same exact total apart first second = same_tests (same first second) (eq_by_cmp cmp first second) (
  (λ e.
      ap (λ (each : X). is_eq (cmp first each)) (sym ((exact first second).0 e))
      ∙ ap is_eq (tied_itself total first)),
  (λ e. (exact first second).1 (apart first second (is_equal (cmp first second) e))),
)

-- what is left has the old members in order, each once
pub record HasInOrder {X : Type 0} (cmp : X → X → Ordering) (old new : List X) : Type 0 where
  pub sorted : IsStrictlySortedBy cmp new
  pub same : (each : X) → Contains new each ↔ Contains old each

pub sorted_once : {X : Type 0} {cmp : X → X → Ordering} (same : X → X → Bool) → ((first second : X) → Decides (same first second) (first ≡ second)) →
    IsTotalOrder cmp → CmpEqualImpliesEq cmp → (old sorted new : List X) →
    IsPermutation old sorted → IsSorted cmp sorted → new ≡ dedup same sorted → HasInOrder cmp old new
sorted_once {X} {cmp} same exact total apart old sorted new moved in_order is = record {
  sorted = subst (λ (list : List X). IsStrictlySortedBy cmp list) (sym is)
      (IsStrictlySortedBy-dedup total (same_where_tied same exact total apart) sorted in_order);
  same = λ each. (
    (λ member.
        Contains-permutation sorted old each (IsPermutation-sym old sorted moved)
        (Contains-from_dedup same sorted each (subst (λ (list : List X). Contains list each) is member))),
    (λ member.
        subst (λ (list : List X). Contains list each) (sym is)
        (Contains-dedup (decided same exact) (λ first second. (exact first second).0) sorted each
        (Contains-permutation old sorted each moved member))),
  );
}
