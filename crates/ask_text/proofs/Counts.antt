-- The lines of the numbers of pairs, query by query.
use Rattle.std.proofs.Common.{◌≡◌, ℕ, zero, suc, ◌+◌, ◌<◌, List, [], ◌∷◌, ◌++◌, length, take, get_or, refl, sym, ap, ap₂, ◌∙◌, arith, append-nil}
use Rattle.std.specs.Prelude.{flat_map, zip}
use Rattle.std.proofs.lemmas.List.{take_more}
use Rattle.std.proofs.lemmas.List.Concat.{flat_map-append}

-- two lists of one length, side by side, with one element more
zip_push : {A B : Type 0} (firsts : List A) (seconds : List B) (first : A) (second : B) →
    length firsts ≡ length seconds →
    zip (firsts ++ first ∷ []) (seconds ++ second ∷ []) ≡ zip firsts seconds ++ (first, second) ∷ []
zip_push [] [] first second same = refl
zip_push [] (other ∷ seconds) first second same = absurd (omega (arith, same))
zip_push (one ∷ firsts) [] first second same = absurd (omega (arith, same))
zip_push {A} {B} (one ∷ firsts) (other ∷ seconds) first second same =
    ap (λ (rest : List (A × B)). (one, other) ∷ rest)
    (zip_push firsts seconds first second (omega (arith, same)))

length_taken : {A : Type 0} (list : List A) (index : ℕ) → index < length list → length (take index list) ≡ index
length_taken [] index within = absurd (omega (arith, within))
length_taken (first ∷ rest) zero within = refl
length_taken (first ∷ rest) (suc index) within = ap (λ (n : ℕ). suc n) (length_taken rest index (omega (arith, within)))

-- what is told of one pair more
pub one_told : {A B : Type 0} (tell : A × B → List ℕ) (firsts : List A) (seconds : List B) (index : ℕ) (first : A) (second : B) →
    index < length firsts → index < length seconds →
    flat_map tell (zip (take (index + 1) firsts) (take (index + 1) seconds))
    ≡ flat_map tell (zip (take index firsts) (take index seconds))
    ++ tell (get_or firsts index first, get_or seconds index second)
one_told tell firsts seconds index first second within also =
    let one = get_or firsts index first in
    let other = get_or seconds index second in
    let before = zip (take index firsts) (take index seconds) in
    ap (flat_map tell)
    (ap₂ zip (take_more firsts index first within) (take_more seconds index second also)
    ∙ zip_push (take index firsts) (take index seconds) one other
    (length_taken firsts index within ∙ sym (length_taken seconds index also)))
    ∙ flat_map-append tell before ((one, other) ∷ [])
    ∙ ap (λ (text : List ℕ). flat_map tell before ++ text) (append-nil (tell (one, other)))
