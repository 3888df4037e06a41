-- Members of lists with one element more.
use Rattle.std.proofs.Common.{◌≡◌, zero, suc, ◌⊎◌, inl, inr, List, [], ◌∷◌, refl, Contains, ⊎_elim, arith}
use Rattle.std.proofs.lemmas.List.Elements.{Contains-append_cases, Contains-append_right}

-- the one element of a list
the_one : {X : Type 0} (x y : X) → Contains (x ∷ []) y → x ≡ y
the_one x y (zero, within, is) = is
the_one x y (suc k, within, is) = absurd (omega (arith, within))

pub contains_head : {X : Type 0} (x : X) (xs : List X) → Contains (x ∷ xs) x
contains_head x xs = (0, omega arith, refl)

pub contains_tail : {X : Type 0} (x : X) (xs : List X) (y : X) → Contains xs y → Contains (x ∷ xs) y
contains_tail x xs y there = Contains-append_right (x ∷ []) xs y there

pub contains_cases : {X : Type 0} (x : X) (xs : List X) (y : X) → Contains (x ∷ xs) y →
    (x ≡ y) ⊎ Contains xs y
contains_cases x xs y there =
    ⊎_elim (λ here. inl (the_one x y here)) (λ other. inr other)
    (Contains-append_cases (x ∷ []) xs y there)

pub contains_none : {X : Type 0} (y : X) → Contains [] y → ⊥
contains_none y there = omega (arith, there.1)
