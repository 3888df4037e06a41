-- The events of a query by their members.
use Rattle.std.proofs.Common.{◌≡◌, ℕ, Bool, true, false, not, List, [], ◌∷◌, map, sym, ap, subst, ◌∙◌, inl, inr, ⊎_elim, arith, refl}
use Rattle.std.specs.Prelude.{Contains, ◌↔◌}
use Rattle.std.proofs.lemmas.Bool.{both_ways, not-true, false_from_ne_true}
use Rattle.std.proofs.lemmas.List.Elements.{Contains-append_left, Contains-append_right, Contains-append_cases}
use Rattle.rpq_base.specs.Laws.{SameIsEqual}
use Rattle.rpq_base.specs.declared.data.Entry.{Entry}
use Rattle.rpq_base.specs.declared.data.Pair.{Pair}
use Rattle.rpq_base.specs.declared.data.Event.{Event}
use Rattle.rpq_base.proofs.Members.{cons_members, kept_members}
use Rattle.rpq_model.specs.Answers.{PathQuery, IsAnswer}
use Rattle.rpq_model.specs.Events.{event, without, AreEvents}
use Rattle.rpq_model.specs.EventLaws.{IsChange}
use Rattle.rpq_model.proofs.Pairs.{has, has_members}

-- the events of some pairs
pub event_members : (pairs : List Pair) (query : ℕ) (added : Bool) (each : Event) →
    Contains (map (event query added) pairs) each ↔ ((pair : Pair) × Contains pairs pair × (event query added pair ≡ each))
event_members [] query added each = (
  (λ member. absurd (omega (arith, member.1))),
  (λ found. absurd (omega (arith, found.1.1))),
)
event_members (first ∷ pairs) query added each = (
  (λ member. ⊎_elim
      (λ here. (first, (cons_members first pairs first).1 (inl refl), here))
      (λ later. let found = (event_members pairs query added each).0 later in (found.0, (cons_members first pairs found.0).1 (inr found.1), found.2))
      ((cons_members (event query added first) (map (event query added) pairs) each).0 member)),
  (λ found. (cons_members (event query added first) (map (event query added) pairs) each).1 (⊎_elim
      (λ here. inl (ap (event query added) here ∙ found.2))
      (λ later. inr ((event_members pairs query added each).1 (found.0, later, found.2)))
      ((cons_members first pairs found.0).0 found.1))),
)

-- the pairs that others lack
pub without_members : SameIsEqual → (pairs others : List Pair) (pair : Pair) →
    Contains (without pairs others) pair ↔ (Contains pairs pair × (Contains others pair → ⊥))
without_members same pairs others pair =
    let kept = kept_members pairs (λ (each : Pair). not (has others each)) pair in (
      (λ member. let both = kept.0 member in
          (both.0, λ other. both_ways (has others pair) (not-true (has others pair) both.1) ((has_members same others pair).1 other))),
      (λ both. kept.1 (both.0, ap not (false_from_ne_true (has others pair) (λ e. both.1 ((has_members same others pair).0 e))))),
    )

made : (query : ℕ) (each : Event) (added : Bool) → each.query ≡ query → each.added ≡ added → event query added each.pair ≡ each
made query each added number kind = λ i. record { query = sym number i; added = sym kind i; pair = each.pair }

-- the events are exactly the changes
pub events_are_changes : SameIsEqual → (query : PathQuery) (number : ℕ) (before after : List Entry) (events : List Event) →
    AreEvents query number before after events → (each : Event) →
    Contains events each ↔ ((each.query ≡ number) × IsChange (IsAnswer query before) (IsAnswer query after) each)
events_are_changes same query number before after events are each =
    let old = are.0 in
    let new = are.1 in
    let losses = map (event number false) (without old new) in
    let gains = map (event number true) (without new old) in (
      (λ member. ⊎_elim
          (λ loss.
          let found = (event_members (without old new) number false each).0 loss in
          let both = (without_members same old new found.0).0 found.1 in
          let pair_is = ap (λ (one : Event). one.pair) found.2 in (
            sym (ap (λ (one : Event). one.query) found.2),
            inl (
              sym (ap (λ (one : Event). one.added) found.2),
              subst (λ (pair : Pair). IsAnswer query before pair) pair_is ((are.2.exact found.0).0 both.0),
              λ answer. both.1 ((are.3.exact found.0).1 (subst (λ (pair : Pair). IsAnswer query after pair) (sym pair_is) answer)),
            ),
          ))
          (λ gain.
          let found = (event_members (without new old) number true each).0 gain in
          let both = (without_members same new old found.0).0 found.1 in
          let pair_is = ap (λ (one : Event). one.pair) found.2 in (
            sym (ap (λ (one : Event). one.query) found.2),
            inr (
              sym (ap (λ (one : Event). one.added) found.2),
              subst (λ (pair : Pair). IsAnswer query after pair) pair_is ((are.3.exact found.0).0 both.0),
              λ answer. both.1 ((are.2.exact found.0).1 (subst (λ (pair : Pair). IsAnswer query before pair) (sym pair_is) answer)),
            ),
          ))
          (Contains-append_cases losses gains each (subst (λ (all : List Event). Contains all each) are.4 member))),
      (λ change. subst (λ (all : List Event). Contains all each) (sym are.4) (⊎_elim
          (λ loss. Contains-append_left losses gains each ((event_members (without old new) number false each).1 (
            each.pair,
            (without_members same old new each.pair).1 ((are.2.exact each.pair).1 loss.1, λ other. loss.2 ((are.3.exact each.pair).0 other)),
            made number each false change.0 loss.0,
          )))
          (λ gain. Contains-append_right losses gains each ((event_members (without new old) number true each).1 (
            each.pair,
            (without_members same new old each.pair).1 ((are.3.exact each.pair).1 gain.1, λ other. gain.2 ((are.2.exact each.pair).0 other)),
            made number each true change.0 gain.0,
          )))
          change.1)),
    )
