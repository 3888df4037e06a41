-- Bindings as events of their joins.
use Rattle.std.proofs.Common.{◌≡◌, ℕ, zero, suc, get_or, ◌+◌, ◌<◌, ◌≤◌, Bool, true, false, List, [], ◌∷◌, ◌++◌, length, Some, sym, ap, subst, ◌∙◌, ◌⊎◌, inl, inr, ⊎_elim, arith}
use Rattle.std.specs.Prelude.{◌↔◌, Contains, slice_get}
use Rattle.std.proofs.lemmas.Bool.{cases_lt}
use Rattle.std.proofs.lemmas.List.Elements.{Contains-push, Contains-push_cases, Contains-append_left}
use Rattle.std.proofs.lemmas.Option.{same_Some}
use Rattle.rpq_base.proofs.Members.{HasOneMore, none_in}
use Rattle.rpq_base.specs.declared.data.Pair.{Pair}
use Rattle.rpq_base.specs.declared.data.Event.{Event}
use Rattle.join_bindings.specs.declared.event.JoinEvent.{JoinEvent}
use Rattle.join_file.specs.Joins.{JoinValue}
use Rattle.join_bindings.specs.Touched.{IsThroughKind}
use Rattle.join_bindings.specs.Changed.{IsFound}

-- the event is of this join and kind, and tells one of these bindings
abbrev pub IsOf : ℕ → Bool → List (List (List ℕ)) → JoinEvent → Type 0
IsOf join added bindings each = (each.join ≡ join) × (each.added ≡ added) × Contains bindings each.binding

-- one binding more
pub binding_more : (join : ℕ) (added : Bool) (before after : List (List (List ℕ))) (one : List (List ℕ)) (found more : List JoinEvent) (Old : Type 0) (each : JoinEvent) →
    HasOneMore before one after → more ≡ found ++ record { join = join; added = added; binding = one } ∷ [] →
    Contains found each ↔ (Old ⊎ IsOf join added before each) → Contains more each ↔ (Old ⊎ IsOf join added after each)
binding_more join added before after one found more Old each step is so_far =
    subst (λ (list : List JoinEvent). Contains list each ↔ (Old ⊎ IsOf join added after each)) (sym is) (
      (λ member. ⊎_elim
          (λ there. ⊎_elim (λ old. inl old) (λ of. inr (of.0, of.1, step.still each.binding of.2)) (so_far.0 there))
          (λ here. inr (
            ap (λ (event : JoinEvent). event.join) (sym here),
            ap (λ (event : JoinEvent). event.added) (sym here),
            subst (Contains after) (ap (λ (event : JoinEvent). event.binding) here) step.here,
          ))
          (Contains-push_cases found new each member)),
      (λ either. ⊎_elim
          (λ old. Contains-append_left found (new ∷ []) each (so_far.1 (inl old)))
          (λ of. ⊎_elim
          (λ there. Contains-append_left found (new ∷ []) each (so_far.1 (inr (of.0, of.1, there))))
          (λ here. subst (Contains (found ++ new ∷ [])) (same of.0 of.1 here) (Contains-push found new))
          (step.cases each.binding of.2))
          either),
    )
  where
    new : JoinEvent
    new = record { join = join; added = added; binding = one }

    same : each.join ≡ join → each.added ≡ added → one ≡ each.binding → new ≡ each
    same join_is added_is binding_is = λ i. record { join = sym join_is i; added = sym added_is i; binding = binding_is i }

-- what stands at a place
pub stands : {X : Type 0} (xs : List X) (index : ℕ) (x : X) → index < length xs → x ≡ get_or xs index x → slice_get xs index ≡ Some x
stands [] index x below is = absurd (omega (arith, below))
stands (first ∷ rest) zero x below is = ap (λ each. Some each) (sym is)
stands (first ∷ rest) (suc index) x below is = stands rest index x (omega (arith, below)) is

-- one join more
pub join_more : (sets : List (List Pair)) (joins : List JoinValue) (added : Bool) (events : List Event) (index : ℕ) (join : JoinValue) (each : JoinEvent) (Old Mid New : Type 0) →
    slice_get joins index ≡ Some join →
    New ↔ (Mid ⊎ ((each.join ≡ index) × (each.added ≡ added) × IsThroughKind sets join added events each.binding)) →
    Mid ↔ (Old ⊎ ((each.join < index) × IsFound sets joins added events each)) →
    New ↔ (Old ⊎ ((each.join < index + 1) × IsFound sets joins added events each))
join_more sets joins added events index join each Old Mid New there now so_far = (
  (λ new. ⊎_elim
      (λ mid. ⊎_elim
      (λ old. inl old)
      (λ some. let low = some.0 in inr (omega (arith, low), some.1))
      (so_far.0 mid))
      (λ here. let is = here.0 in inr (omega (arith, is), (join, ap (slice_get joins) here.0 ∙ there, here.1, here.2)))
      (now.0 new)),
  (λ either. now.1 (⊎_elim
      (λ old. inl (so_far.1 (inl old)))
      (λ some. ⊎_elim
      (λ low. inl (so_far.1 (inr (low, some.1))))
      (λ high. inr (here some.0 some.1 high))
      (cases_lt each.join index))
      either)),
)
  where
    here : each.join < index + 1 → IsFound sets joins added events each → index ≤ each.join →
        (each.join ≡ index) × (each.added ≡ added) × IsThroughKind sets join added events each.binding
    here low found high =
        let is : each.join ≡ index = omega (arith, low, high) in
        let same : found.0 ≡ join = same_Some found.0 join (sym found.1 ∙ (ap (slice_get joins) is ∙ there)) in
        (is, found.2, subst (λ (one : JoinValue). IsThroughKind sets one added events each.binding) same found.3)

-- all joins, over the pairs before and after
pub both_found : (joins : List JoinValue) (old new first second : List (List Pair)) (events : List Event) (none half all sorted : List JoinEvent) →
    none ≡ [] → first ≡ old → second ≡ new →
    ((each : JoinEvent) → Contains half each ↔ (Contains none each ⊎ IsFound first joins false events each)) →
    ((each : JoinEvent) → Contains all each ↔ (Contains half each ⊎ IsFound second joins true events each)) →
    ((each : JoinEvent) → Contains sorted each ↔ Contains all each) →
    (each : JoinEvent) → Contains sorted each ↔ (IsFound old joins false events each ⊎ IsFound new joins true events each)
both_found joins old new first second events none half all sorted none_is first_is second_is losses gains same each = (
  (λ member. ⊎_elim
      (λ there. ⊎_elim
      (λ blank. absurd (none_in each (subst (λ (list : List JoinEvent). Contains list each) none_is blank)))
      (λ lost. inl (subst (λ (sets : List (List Pair)). IsFound sets joins false events each) first_is lost))
      ((losses each).0 there))
      (λ gained. inr (subst (λ (sets : List (List Pair)). IsFound sets joins true events each) second_is gained))
      ((gains each).0 ((same each).0 member))),
  (λ either. (same each).1 ((gains each).1 (⊎_elim
      (λ lost. inl ((losses each).1 (inr (subst (λ (sets : List (List Pair)). IsFound sets joins false events each) (sym first_is) lost))))
      (λ gained. inr (subst (λ (sets : List (List Pair)). IsFound sets joins true events each) (sym second_is) gained))
      either))),
)
