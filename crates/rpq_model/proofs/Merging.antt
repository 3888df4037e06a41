-- The events of pairs that others lack, one pair after another.
use Rattle.std.proofs.Common.{◌≡◌, ℕ, ◌+◌, ◌<◌, Bool, true, false, not, List}
use Rattle.std.proofs.Common.{[], ◌∷◌, ◌++◌, length, get_or, take, map, sym}
use Rattle.std.proofs.Common.{ap, ◌∙◌, append_assoc}
use Rattle.std.specs.Prelude.{if◌then◌else◌}
use Rattle.std.proofs.lemmas.List.{append-nil, map-append}
use Rattle.std.proofs.lemmas.List.Elements.{filter_more}
use Rattle.rpq_base.specs.declared.data.Pair.{Pair}
use Rattle.rpq_base.specs.declared.data.Event.{Event}
use Rattle.rpq_model.specs.Events.{event, without}
use Rattle.rpq_model.proofs.Pairs.{has}

-- one pair more is kept or not
kept_more : (pairs others : List Pair) (index : ℕ) (pair : Pair) (test : Bool) →
    index < length pairs → pair ≡ get_or pairs index pair → has others pair ≡ test →
    without (take (index + 1) pairs) others ≡ without (take index pairs) others ++ (if not test then pair ∷ [] else [])
kept_more pairs others index pair test below is found =
    let kept = without (take index pairs) others in
    filter_more (λ (each : Pair). not (has others each)) pairs index pair below
    ∙ (ap (λ (each : Pair). kept ++ (if not (has others each) then each ∷ [] else [])) (sym is)
    ∙ ap (λ (among : Bool). kept ++ (if not among then pair ∷ [] else [])) found)

-- a pair that isn't among the others gives an event
pub given_more : (pairs others : List Pair) (index : ℕ) (pair : Pair) (query : ℕ) (added : Bool)
    (old found : List Event) →
    index < length pairs → pair ≡ get_or pairs index pair →
    has others pair ≡ false → found ≡ old ++ map (event query added) (without (take index pairs) others) →
    found ++ event query added pair ∷ [] ≡ old ++ map (event query added) (without (take (index + 1) pairs) others)
given_more pairs others index pair query added old found below is absent so_far =
    let kept = without (take index pairs) others in
    ap (λ (events : List Event). events ++ event query added pair ∷ []) so_far
    ∙ (append_assoc old (map (event query added) kept) (event query added pair ∷ [])
    ∙ ap (λ (events : List Event). old ++ events)
    (sym (map-append (event query added) kept (pair ∷ [])) ∙ ap (map (event query added))
    (sym (kept_more pairs others index pair false below is absent))))

-- one that is gives none
pub given_same : (pairs others : List Pair) (index : ℕ) (pair : Pair) (query : ℕ) (added : Bool)
    (old found : List Event) →
    index < length pairs → pair ≡ get_or pairs index pair →
    has others pair ≡ true → found ≡ old ++ map (event query added) (without (take index pairs) others) →
    found ≡ old ++ map (event query added) (without (take (index + 1) pairs) others)
given_same pairs others index pair query added old found below is among so_far =
    let kept = without (take index pairs) others in
    so_far ∙ ap (λ (all : List Pair). old ++ map (event query added) all)
    (sym (kept_more pairs others index pair true below is among ∙ append-nil kept))
