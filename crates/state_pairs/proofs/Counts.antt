-- How many nodes have no level.
use Rattle.std.proofs.Common.{◌≡◌, ℕ, suc, ◌<◌, ◌≤◌, List, [], ◌∷◌, length, Option, Some, None, refl, ap, ◌∙◌, ⊎_elim, inl, inr, arith, ◌⊎◌}
use Rattle.std.proofs.lemmas.Option.{none-some}
use Rattle.state_pairs.specs.Goals.{level_at}

-- the nodes without a level
abbrev pub lacking : List (Option ℕ) → ℕ
lacking [] = 0
lacking (None ∷ levels) = suc (lacking levels)
lacking (Some level ∷ levels) = lacking levels

pub lacking-le-length : (levels : List (Option ℕ)) → lacking levels ≤ length levels
lacking-le-length [] = omega arith
lacking-le-length (None ∷ levels) = omega (arith, lacking-le-length levels)
lacking-le-length (Some level ∷ levels) = omega (arith, lacking-le-length levels)

-- levels that are there stay
abbrev pub Stay : List (Option ℕ) → List (Option ℕ) → Type 0
Stay before after = (node level : ℕ) → level_at before node ≡ Some level → level_at after node ≡ Some level

rest_stays : (first second : Option ℕ) (before after : List (Option ℕ)) → Stay (first ∷ before) (second ∷ after) → Stay before after
rest_stays first second before after stay = λ node level is. stay (suc node) level is

-- so no more lack one, and as many only where nothing changed
pub fewer : (before after : List (Option ℕ)) → length after ≡ length before → Stay before after → (lacking after < lacking before) ⊎ (after ≡ before)
fewer [] [] as_many stay = inr refl
fewer [] (second ∷ after) as_many stay = absurd (omega (arith, as_many))
fewer (first ∷ before) [] as_many stay = absurd (omega (arith, as_many))
fewer (None ∷ before) (None ∷ after) as_many stay = ⊎_elim
    (λ less. inl (omega (arith, less)))
    (λ same. inr (ap (λ (rest : List (Option ℕ)). None ∷ rest) same))
    (fewer before after (omega (arith, as_many)) (rest_stays None None before after stay))
fewer (None ∷ before) (Some level ∷ after) as_many stay = ⊎_elim
    (λ less. inl (omega (arith, less)))
    (λ same. inl (let e = ap lacking same in omega (arith, e)))
    (fewer before after (omega (arith, as_many)) (rest_stays None (Some level) before after stay))
fewer (Some old ∷ before) (None ∷ after) as_many stay = absurd (none-some old (stay 0 old refl))
fewer (Some old ∷ before) (Some new ∷ after) as_many stay =
    let is : Some new ≡ Some old = stay 0 old refl in
    ⊎_elim
    (λ less. inl (omega (arith, less)))
    (λ same. inr (ap (λ (rest : List (Option ℕ)). Some new ∷ rest) same ∙ ap (λ (o : Option ℕ). o ∷ before) is))
    (fewer before after (omega (arith, as_many)) (rest_stays (Some old) (Some new) before after stay))
