-- The events that none of the others undoes.
use Rattle.std.proofs.Common.{◌≡◌, ℕ, true, List, [], ◌∷◌, ◌++◌, length, get_or, Result, Ok, Err, refl, ap, subst, ◌∙◌, ◌⊎◌, inl, inr, ⊎_elim, arith}
use Rattle.std.specs.Prelude.{◌↔◌, Contains, is_ok}
use Rattle.std.specs.List.Sorted.{IsStrictlySortedBy, IsBinarySearchResult, IsSearchInRange}
use Rattle.std.specs.declared.cmp.Ordering.TheVariants.{Equal}
use Rattle.std.proofs.lemmas.Bool.{false≢true, cases_lt}
use Rattle.std.proofs.lemmas.Cmp.{tied_itself}
use Rattle.std.proofs.lemmas.List.Elements.{Contains-push, Contains-push_cases, Contains-append_left}
use Rattle.std.proofs.lemmas.List.Sorted.{searchable_from_sorted}
use Rattle.rpq_base.specs.declared.data.Event.{Event}
use Rattle.rpq_base.proofs.Members.{HasOneMore, none_in}
use Rattle.two_way.specs.Differences.{event_cmp}
use Rattle.two_way.specs.Net.{opposite, Stays, AreNet}
use Rattle.two_way.proofs.EventOrder.{event_cmp_total, event_cmp_exact, none_falls}

-- a binary search finds an event exactly where it is one of them
pub found_by_search : (found : Result ℕ ℕ) (others : List Event) (one : Event) → IsStrictlySortedBy event_cmp others →
    IsBinarySearchResult (λ each. event_cmp each one) others found → IsSearchInRange found (length others) →
    (is_ok found ≡ true) ↔ Contains others one
found_by_search (Ok place) others one sorted found within = (
  (λ e. (place, within, event_cmp_exact (get_or others place one) one (found one))),
  (λ member. refl),
)
found_by_search (Err gap) others one sorted found within =
    let point = found (searchable_from_sorted event_cmp_total (λ each. each) others one (none_falls others sorted)) in (
      (λ e. absurd (false≢true e)),
      (λ member.
          let place = member.0 in
          let tied : event_cmp (get_or others place one) one ≡ Equal =
          ap (λ (each : Event). event_cmp each one) member.2 ∙ tied_itself event_cmp_total one in
          absurd (⊎_elim
          (λ before. let less = point.0 place one (omega arith) before in cc)
          (λ after. let greater = point.1 place one after member.1 in cc)
          (cases_lt place gap))),
    )

-- to the old events those are added that stay
abbrev pub HasStaying : List Event → List Event → List Event → List Event → Type 0
HasStaying old own others found = (each : Event) → Contains found each ↔ (Contains old each ⊎ Stays own others each)

pub none_stays : (old others : List Event) → HasStaying old [] others old
none_stays old others each = (
  (λ member. inl member),
  (λ either. ⊎_elim (λ member. member) (λ stays. absurd (none_in each stays.0)) either),
)

-- one event more that stays
pub stays_more : (old own further others found : List Event) (one : Event) → HasOneMore own one further →
    (Contains others (opposite one) → ⊥) → HasStaying old own others found → HasStaying old further others (found ++ one ∷ [])
stays_more old own further others found one more free so_far each = (
  (λ member. ⊎_elim
      (λ before. ⊎_elim (λ was. inl was) (λ stays. inr (more.still each stays.0, stays.1)) ((so_far each).0 before))
      (λ is. inr (subst (Stays further others) is (more.here, free)))
      (Contains-push_cases found one each member)),
  (λ either. ⊎_elim
      (λ was. Contains-append_left found (one ∷ []) each ((so_far each).1 (inl was)))
      (λ stays. ⊎_elim
      (λ before. Contains-append_left found (one ∷ []) each ((so_far each).1 (inr (before, stays.1))))
      (λ is. subst (Contains (found ++ one ∷ [])) is (Contains-push found one))
      (more.cases each stays.0))
      either),
)

-- one that is undone
pub goes_more : (old own further others found : List Event) (one : Event) → HasOneMore own one further →
    Contains others (opposite one) → HasStaying old own others found → HasStaying old further others found
goes_more old own further others found one more undone so_far each = (
  (λ member. ⊎_elim (λ was. inl was) (λ stays. inr (more.still each stays.0, stays.1)) ((so_far each).0 member)),
  (λ either. ⊎_elim
      (λ was. (so_far each).1 (inl was))
      (λ stays. ⊎_elim
      (λ before. (so_far each).1 (inr (before, stays.1)))
      (λ is. absurd (stays.1 (subst (λ (event : Event). Contains others (opposite event)) is undone)))
      (more.cases each stays.0))
      either),
)

-- those of both lists, in order, are the net
pub net_from_staying : (first second one both events : List Event) → HasStaying [] first second one → HasStaying one second first both →
    IsStrictlySortedBy event_cmp events → ((each : Event) → Contains events each ↔ Contains both each) → AreNet first second events
net_from_staying first second one both events from_first from_second sorted same = record {
  sorted = sorted;
  exact = λ each. (
    (λ member. ⊎_elim
        (λ early. ⊎_elim (λ none. absurd (none_in each none)) (λ stays. inl stays) ((from_first each).0 early))
        (λ stays. inr stays)
        ((from_second each).0 ((same each).0 member))),
    (λ either. (same each).1 ((from_second each).1 (⊎_elim
        (λ stays. inl ((from_first each).1 (inr stays)))
        (λ stays. inr stays)
        either))),
  );
}
