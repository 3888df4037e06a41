-- The events of one query, and pairs over no entry.
use Rattle.std.proofs.Common.{◌≡◌, ℕ, zero, suc, List, [], ◌∷◌, length, refl, sym, ap, subst, arith, append-nil}
use Rattle.std.specs.Prelude.{◌↔◌, All, Contains, Some, slice_get}
use Rattle.std.proofs.lemmas.List.Elements.{All-head}
use Rattle.rpq_base.specs.declared.data.Entry.{Entry}
use Rattle.rpq_base.specs.declared.data.Pair.{Pair}
use Rattle.rpq_base.specs.declared.data.Event.{Event}
use Rattle.rpq_base.proofs.Members.{none_in}
use Rattle.rpq_model.specs.Answers.{IsAnswer, AreAnswers}
use Rattle.rpq_model.specs.Events.{changes}
use Rattle.rpq_model.specs.Query.{Query, path_query}
use Rattle.rpq_model.specs.QueryEvents.{AreEventsUnder}
use Rattle.join_bindings.specs.Leading.{HoldAnswers}
use Rattle.join_bindings.specs.State.{family}

pub one_query : (query : Query) (before after : List Entry) (old new : List Pair) (events : List Event) →
    AreAnswers (path_query query) before old → AreAnswers (path_query query) after new → events ≡ changes 0 old new →
    AreEventsUnder 0 (query ∷ []) before after events
one_query query before after old new events old_are new_are is = (events, [], (old, new, old_are, new_are, is), refl, sym (append-nil events))

only_one : (query other : Query) → slice_get (query ∷ []) zero ≡ Some other → query ≡ other
only_one query other there = cc

pub none_yet : (query : Query) (old : List Pair) (sets : List (List Pair)) → AreAnswers (path_query query) [] old → old ≡ [] → sets ≡ [] ∷ [] →
    HoldAnswers (query ∷ []) [] sets
none_yet query old sets are none blank = record {
  as_many = ap (λ (each : List (List Pair)). length each) blank;
  exact = exact;
}
  where
    exact : (number : ℕ) (other : Query) → slice_get (query ∷ []) number ≡ Some other → (pair : Pair) →
        Contains (family sets number) pair ↔ IsAnswer (path_query other) [] pair
    exact zero other there pair = subst (λ (each : Query). Contains (family sets zero) pair ↔ IsAnswer (path_query each) [] pair) (only_one query other there) (
      (λ member. absurd (none_in pair (subst (λ (each : List (List Pair)). Contains (family each zero) pair) blank member))),
      (λ answer. absurd (none_in pair (subst (λ (each : List Pair). Contains each pair) none ((are.exact pair).1 answer)))),
    )
    exact (suc number) other there pair = absurd cc

pub nothing_in : (pairs : List Pair) → length pairs ≡ 0 → pairs ≡ []
nothing_in [] none = refl
nothing_in (pair ∷ rest) none = absurd cc

-- one blank list
pub one_blank : (sets : List (List Pair)) → length sets ≡ 1 → All (λ (own : List Pair). own ≡ []) sets → sets ≡ [] ∷ []
one_blank [] one blank = absurd cc
one_blank (own ∷ []) one blank = ap (λ (each : List Pair). each ∷ []) (All-head (λ (own : List Pair). own ≡ []) own [] blank)
one_blank (own ∷ other ∷ rest) one blank = absurd (omega (arith, one))
