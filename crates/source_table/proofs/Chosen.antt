-- The places of the chosen roots.
use Rattle.std.proofs.Common.{◌≡◌, ◌⊎◌, inl, inr, ℕ, zero, suc, Bool, true, false, List, [], ◌∷◌, get_or, filter_map, Option, None, Some, nat_eq, Contains, refl, sym, ap, ◌∙◌, arith}
use Rattle.std.specs.Ordering.{nat_cmp}
use Rattle.std.specs.declared.cmp.Ordering.TheVariants.{Less, Equal}
use Rattle.std.specs.List.{IsDistinct}
use Rattle.std.specs.List.Sorted.{IsStrictlySortedBy}
use Rattle.std.specs.List.{cons_option}
use Rattle.std.proofs.lemmas.Cmp.{tied_itself}
use Rattle.std.specs.Cmp.{nat_cmp_total}
use Rattle.std.proofs.lemmas.List.Elements.{All-contains, All-from_recursion, recursion_from_All, Contains-get_or, Contains-append_cases, Contains-append_right}
use Rattle.std.proofs.lemmas.Map.Keys.{sorted_head, sorted_tail, IsDistinct-cons}
use Rattle.std.proofs.lemmas.Map.Views.{exact_unsigned_eq}
use Rattle.source_table.proofs.Lists.{none_or_some, some_is_one}

-- the one element of a list
the_one : (x y : ℕ) → Contains (x ∷ []) y → x ≡ y
the_one x y (zero, within, is) = is
the_one x y (suc k, within, is) = absurd (omega (arith, within))

pub nothing_there : (x : ℕ) → Contains [] x → ⊥
nothing_there x (k, within, is) = omega (arith, within)

-- the first, or one of the others
first_or : (x : ℕ) (xs : List ℕ) (y : ℕ) → Contains (x ∷ xs) y → (x ≡ y) ⊎ Contains xs y
first_or x xs y there = elim (Contains-append_cases (x ∷ []) xs y there) [
  | inl here ↦ inl (the_one x y here)
  | inr other ↦ inr other
]

module _ (f : ℕ → Option ℕ) where
  -- a chosen place is that of one of the roots
  pub chosen_from : (roots : List ℕ) (place : ℕ) → Contains (filter_map f roots) place →
      (root : ℕ) × Contains roots root × (f root ≡ Some place)
  chosen_from [] place there = absurd (nothing_there place there)
  chosen_from (root ∷ rest) place there = by (f root) refl there (λ further.
      let (each, among, is) = chosen_from rest place further in
      (each, Contains-append_right (root ∷ []) rest each among, is))
    where
      by : (found : Option ℕ) → f root ≡ found →
          Contains (cons_option found (filter_map f rest)) place →
          (Contains (filter_map f rest) place →
          (each : ℕ) × Contains (root ∷ rest) each × (f each ≡ Some place)) →
          (each : ℕ) × Contains (root ∷ rest) each × (f each ≡ Some place)
      by None is there later = later there
      by (Some own) is there later = elim (first_or own (filter_map f rest) place there) [
        | inl here ↦ (root, (0, omega arith, refl), is ∙ ap Some here)
        | inr other ↦ later other
      ]

  -- the place of one of the roots is chosen
  pub chosen_has : (roots : List ℕ) (root place : ℕ) → Contains roots root →
      f root ≡ Some place → Contains (filter_map f roots) place
  chosen_has [] root place there is = absurd (nothing_there root there)
  chosen_has (first ∷ rest) root place there is =
      by (f first) refl (first_or first rest root there)
      (λ other. chosen_has rest root place other is)
    where
      by : (found : Option ℕ) → f first ≡ found → (first ≡ root) ⊎ Contains rest root →
          (Contains rest root → Contains (filter_map f rest) place) →
          Contains (cons_option found (filter_map f rest)) place
      by None none (inl here) later = absurd (none_or_some place (sym none ∙ ap f here ∙ is))
      by None none (inr other) later = later other
      by (Some own) some (inl here) later =
          (0, omega arith, some_is_one own place (sym some ∙ ap f here ∙ is))
      by (Some own) some (inr other) later =
          Contains-append_right (own ∷ []) (filter_map f rest) place (later other)

  -- the places of different roots differ
  pub chosen_once : ((one other place : ℕ) → f one ≡ Some place → f other ≡ Some place →
      one ≡ other) → (roots : List ℕ) → IsStrictlySortedBy nat_cmp roots →
      IsDistinct nat_eq (filter_map f roots)
  unfolding IsDistinct
  chosen_once exact [] sorted = tt
  chosen_once exact (root ∷ rest) sorted =
      by (f root) refl (chosen_once exact rest (sorted_tail nat_cmp root rest sorted))
    where
      above : (each : ℕ) → Contains rest each → root ≡ each → ⊥
      above each there same =
          let less = All-contains (λ other. nat_cmp root other ≡ Less) rest each
          (All-from_recursion (λ other. nat_cmp root other ≡ Less) rest
          (sorted_head nat_cmp root rest sorted)) there in
          unequal (sym (tied_itself nat_cmp_total root) ∙ ap (nat_cmp root) same ∙ less)
        where
          unequal : Equal ≡ Less → ⊥
          unequal e = cc

      apart : (own each : ℕ) → f root ≡ Some own → Contains (filter_map f rest) each →
          (b : Bool) → nat_eq own each ≡ b → b ≡ false
      apart own each is there true same =
          let (other, among, at) = chosen_from rest each there in
          absurd (above other among (exact root other each
          (is ∙ ap Some (exact_unsigned_eq own each same)) at))
      apart own each is there false other = refl

      by : (found : Option ℕ) → f root ≡ found → IsDistinct nat_eq (filter_map f rest) →
          IsDistinct nat_eq (cons_option found (filter_map f rest))
      by None is once = once
      by (Some own) is once = IsDistinct-cons nat_eq own (filter_map f rest)
          (recursion_from_All (λ each. nat_eq own each ≡ false) (filter_map f rest)
          (λ k d below. apart own (get_or (filter_map f rest) k d) is
          (Contains-get_or (filter_map f rest) k d below)
          (nat_eq own (get_or (filter_map f rest) k d)) refl))
          once
