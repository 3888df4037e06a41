-- Which of two lists of distinct numbers is the longer one.
use Rattle.std.proofs.Common.{◌≡◌, inl, inr, ◌≤◌, ◌<◌, ℕ, suc, Bool, true, false, List, [], ◌∷◌, length, refl, subst, Contains, eqb, arith}
use Rattle.std.proofs.lemmas.Cmp.{nat_eq_equiv}
use Rattle.std.specs.List.{IsDistinct, AllByRecursion}
use Rattle.std.proofs.lemmas.Bool.{eqb-true}
use Rattle.std.proofs.lemmas.Map.Keys.{IsDistinct-cons}
use Rattle.std.proofs.lemmas.Map.Made.{length-le_from_is_member}
use Rattle.std.proofs.lemmas.Map.Views.{Contains-from_any, list_any-from_Contains}
use Rattle.tree_insert.proofs.Members.{contains_head, contains_tail, contains_cases}

-- a list is no longer than one that has all its numbers
pub no_longer : (few many : List ℕ) → IsDistinct eqb few →
    ((number : ℕ) → Contains few number → Contains many number) → length few ≤ length many
no_longer few many once all = length-le_from_is_member nat_eq_equiv few many once
    (λ number member. list_any-from_Contains nat_eq_equiv number many
    (all number (Contains-from_any (λ x y is. eqb-true x y is) number few member)))

apart : (number : ℕ) (numbers : List ℕ) → (Contains numbers number → ⊥) →
    AllByRecursion (λ each. eqb number each ≡ false) numbers
apart number [] none = tt
apart number (first ∷ rest) none = (
  differs (eqb number first) refl,
  apart number rest (λ there. none (contains_tail first rest number there)),
)
  where
    differs : (b : Bool) → eqb number first ≡ b → b ≡ false
    differs true is = absurd (none (subst (λ each. Contains (each ∷ rest) number)
        (eqb-true number first is) (contains_head number rest)))
    differs false other = refl

-- it is shorter, where that has one more
pub shorter : (few many : List ℕ) (other : ℕ) → IsDistinct eqb few →
    (Contains few other → ⊥) → Contains many other →
    ((number : ℕ) → Contains few number → Contains many number) → length few < length many
shorter few many other once none there all =
    let most : suc (length few) ≤ length many = no_longer (other ∷ few) many
    (IsDistinct-cons eqb other few (apart other few none) once)
    (λ number one. elim (contains_cases other few number one) [
      | inl is ↦ subst (Contains many) is there
      | inr more ↦ all number more
    ]) in
    omega (arith, most)
