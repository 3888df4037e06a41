-- Roots that are kept as a list.
use Rattle.std.proofs.Common.{◌≡◌, inl, inr, ℕ, zero, suc, Bool, true, false, List, [], ◌∷◌, ◌++◌, Contains, IsPermutation, nat_eq, slice_get, slice_index_or, Some, refl, sym, ap, subst, ◌∙◌, true≢false, arith}
use Rattle.std.specs.Cmp.{nat_eq_equiv}
use Rattle.std.specs.List.{IsDistinct, AllByRecursion, swap_remove}
use Rattle.std.proofs.lemmas.List.Elements.{Contains-append_cases, Contains-append_left, Contains-append_right, Contains-push, Contains-push_cases}
use Rattle.std.proofs.lemmas.List.Sorted.{Contains-permutation, IsPermutation-append_comm, IsPermutation-swap_remove, IsPermutation-sym}
use Rattle.std.proofs.lemmas.Map.Keys.{IsDistinct-cons, IsDistinct-head, IsDistinct-tail, IsDistinct-IsPermutation}
use Rattle.std.proofs.lemmas.Option.{get_or_from_slice_get, slice_get_within}
use Rattle.std.proofs.lemmas.Map.Views.{exact_unsigned_eq}
use Rattle.source_index.specs.Roots.{AddsRoot, DropsRoot}

-- a root is the only one in a list of it alone
alone : (root each : ℕ) → Contains (root ∷ []) each → root ≡ each
alone root each (zero, within, is) = is
alone root each (suc k, within, is) = absurd (omega (arith, within))

-- no root is there twice where there is none
pub none_twice : IsDistinct nat_eq []
unfolding IsDistinct
none_twice = tt

-- ---- a root that isn't there yet

-- it differs from each that is there
all_apart : (roots : List ℕ) (root : ℕ) → (Contains roots root → ⊥) →
    AllByRecursion (λ each. nat_eq root each ≡ false) roots
all_apart [] root absent = tt
all_apart (first ∷ rest) root absent = (
  apart (nat_eq root first) refl,
  all_apart rest root (λ there. absent (Contains-append_right (first ∷ []) rest root there)),
)
  where
    apart : (b : Bool) → nat_eq root first ≡ b → nat_eq root first ≡ false
    apart true same = absurd (absent (0, omega arith, sym (exact_unsigned_eq root first same)))
    apart false differs = differs

pub distinct_push : (roots : List ℕ) (root : ℕ) → (Contains roots root → ⊥) →
    IsDistinct nat_eq roots → IsDistinct nat_eq (roots ++ root ∷ [])
distinct_push roots root absent once =
    IsDistinct-IsPermutation nat_eq nat_eq_equiv.symm (root ∷ roots) (roots ++ root ∷ [])
    (IsPermutation-append_comm (root ∷ []) roots)
    (IsDistinct-cons nat_eq root roots (all_apart roots root absent) once)

pub adds_push : (roots : List ℕ) (root : ℕ) → AddsRoot roots (roots ++ root ∷ []) root
adds_push roots root each = (
  (λ there. elim (Contains-push_cases roots root each there) [
    | inl was ↦ inl was
    | inr is ↦ inr (sym is)
  ]),
  (λ which. elim which [
    | inl was ↦ Contains-append_left roots (root ∷ []) each was
    | inr is ↦ subst (Contains (roots ++ root ∷ [])) (sym is) (Contains-push roots root)
  ]),
)

-- a root that is there already
pub adds_present : (roots : List ℕ) (root : ℕ) → Contains roots root → AddsRoot roots roots root
adds_present roots root present each = (
  (λ there. inl there),
  (λ which. elim which [
    | inl was ↦ was
    | inr is ↦ subst (Contains roots) (sym is) present
  ]),
)

-- ---- a root that is taken out

-- a root that differs from each differs from one of them
apart_from : (roots : List ℕ) (root each : ℕ) →
    AllByRecursion (λ other. nat_eq root other ≡ false) roots → Contains roots each →
    nat_eq root each ≡ false
apart_from [] root each apart (place, within, is) = absurd (omega (arith, within))
apart_from (first ∷ rest) root each apart (zero, within, is) =
    ap (nat_eq root) (sym is) ∙ apart.0
apart_from (first ∷ rest) root each apart (suc place, within, is) =
    apart_from rest root each apart.1 (place, omega (arith, within), is)

-- the others are left
pub distinct_left : (roots left : List ℕ) (root : ℕ) → IsPermutation roots (root ∷ left) →
    IsDistinct nat_eq roots → IsDistinct nat_eq left
distinct_left roots left root moved once =
    IsDistinct-tail nat_eq root left
    (IsDistinct-IsPermutation nat_eq nat_eq_equiv.symm roots (root ∷ left) moved once)

pub drops_left : (roots left : List ℕ) (root : ℕ) → IsPermutation roots (root ∷ left) →
    IsDistinct nat_eq roots → DropsRoot roots left root
drops_left roots left root moved once each = (now, before)
  where
    now : Contains left each → Contains roots each × (each ≡ root → ⊥)
    now there = (
      Contains-permutation (root ∷ left) roots each
          (IsPermutation-sym roots (root ∷ left) moved)
          (Contains-append_right (root ∷ []) left each there),
      (λ is. true≢false (sym (ap (nat_eq root) is ∙ nat_eq_equiv.refl root)
          ∙ apart_from left root each (IsDistinct-head nat_eq root left
          (IsDistinct-IsPermutation nat_eq nat_eq_equiv.symm roots (root ∷ left) moved once))
          there)),
    )

    before : Contains roots each × (each ≡ root → ⊥) → Contains left each
    before (was, other) =
        elim (Contains-append_cases (root ∷ []) left each
        (Contains-permutation roots (root ∷ left) each moved was)) [
          | inl here ↦ absurd (other (sym (alone root each here)))
          | inr there ↦ there
        ]

-- ---- the place of a root

pub is_at : (roots : List ℕ) (root place : ℕ) → slice_get roots place ≡ Some root →
    Contains roots root
is_at roots root place at =
    (place, slice_get_within roots place root at, get_or_from_slice_get roots place root root at)

-- the root at a place is moved out, and the last one comes into its place
pub moved_out : (roots : List ℕ) (root place out : ℕ) → slice_get roots place ≡ Some root →
    out ≡ slice_index_or roots place out →
    IsPermutation roots (root ∷ swap_remove roots place out)
moved_out roots root place out at is =
    subst (λ first. IsPermutation roots (first ∷ swap_remove roots place out))
    (is ∙ get_or_from_slice_get roots place root out at)
    (IsPermutation-swap_remove roots place out (slice_get_within roots place root at) is)
