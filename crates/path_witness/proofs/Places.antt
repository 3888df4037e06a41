-- Places in a list with one more element at its end.
use Rattle.std.proofs.Common.{◌≡◌, ℕ, ◌+◌, ◌<◌, List, [], ◌∷◌, ◌++◌, length, Some, sym, ap, subst, ◌∙◌, ◌⊎◌, inl, inr, ⊎_elim, arith, length-append}
use Rattle.std.specs.Prelude.{slice_get}
use Rattle.std.proofs.lemmas.Bool.{cases_order}
use Rattle.std.proofs.lemmas.Option.{same_Some, slice_get_within, slice_get-get_or, get_or_from_slice_get}
use Rattle.std.proofs.lemmas.List.{get_or_append_left}
use Rattle.std.proofs.Math.Seq.{get_or-append_seam}

-- a number below a count and one is below it or is it
pub below_or_at : (number count : ℕ) → number < count + 1 → (number < count) ⊎ (number ≡ count)
below_or_at number count below =
    ⊎_elim (λ same. inr same) (λ differ. ⊎_elim (λ less. inl less) (λ more. absurd (omega (arith, more, below))) differ) (cases_order number count)

-- an element that was there is there still
pub in_front : {X : Type 0} (elements : List X) (one : X) (place : ℕ) (found : X) → slice_get elements place ≡ Some found →
    slice_get (elements ++ one ∷ []) place ≡ Some found
in_front elements one place found there =
    let within = slice_get_within elements place found there in
    slice_get-get_or (elements ++ one ∷ []) place found (omega (arith, within, length-append elements (one ∷ [])))
    ∙ ap Some (get_or_append_left elements (one ∷ []) found place within ∙ get_or_from_slice_get elements place found found there)

-- the new one is at the end
pub at_end : {X : Type 0} (elements : List X) (one : X) (place : ℕ) → length elements ≡ place → slice_get (elements ++ one ∷ []) place ≡ Some one
at_end elements one place is =
    subst (λ (at : ℕ). slice_get (elements ++ one ∷ []) at ≡ Some one) is
    (slice_get-get_or (elements ++ one ∷ []) (length elements) one (omega (arith, length-append elements (one ∷ [])))
    ∙ ap Some (get_or-append_seam elements one [] one))

-- and each is one of the two
pub place_cases : {X : Type 0} (elements : List X) (one : X) (place : ℕ) (found : X) → slice_get (elements ++ one ∷ []) place ≡ Some found →
    (slice_get elements place ≡ Some found) ⊎ ((place ≡ length elements) × (one ≡ found))
place_cases elements one place found there = ⊎_elim
    (λ less.
    inl (slice_get-get_or elements place found less
    ∙ ap Some (sym (get_or_append_left elements (one ∷ []) found place less) ∙ get_or_from_slice_get (elements ++ one ∷ []) place found found there)))
    (λ last. inr (last, same_Some one found (sym (at_end elements one place (sym last)) ∙ there)))
    (below_or_at place (length elements) (omega (arith, slice_get_within (elements ++ one ∷ []) place found there, length-append elements (one ∷ []))))
