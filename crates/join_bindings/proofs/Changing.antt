-- The pairs of queries, changed event by event.
use Rattle.std.proofs.Common.{◌≡◌, ℕ, ◌<◌, true, List, [], length, get_or, set, take, sym, ap, subst, ◌∙◌, ⊎_elim, arith}
use Rattle.std.specs.Prelude.{◌↔◌, Contains}
use Rattle.std.proofs.lemmas.Bool.{cases_eq}
use Rattle.std.proofs.lemmas.List.{length-take, get_or-take, get_or_default, get_or-set_same, get_or-set_other}
use Rattle.rpq_base.proofs.Members.{HasOneMore}
use Rattle.rpq_base.specs.declared.data.Pair.{Pair}
use Rattle.rpq_base.specs.declared.data.Event.{Event}
use Rattle.join_bindings.specs.Changed.{IsPut}
use Rattle.join_bindings.specs.State.{family, ArePut, AreApart}

-- the pairs of one query are changed
pub put_at : (sets : List (List Pair)) (old new : List Pair) (event : Event) → event.query < length sets → old ≡ get_or sets event.query old →
    (event.added ≡ true) ↔ Contains new event.pair → ((other : Pair) → (event.pair ≡ other → ⊥) → Contains new other ↔ Contains old other) →
    IsPut sets (set sets event.query new) event
put_at sets old new event below found own others =
    let is : old ≡ get_or sets event.query [] = found ∙ get_or_default sets event.query old [] below in
    let now : get_or (set sets event.query new) event.query [] ≡ new = get_or-set_same sets event.query new [] below in
    record {
      own = subst (λ (list : List Pair). (event.added ≡ true) ↔ Contains list event.pair) (sym now) own;
      others = λ query pair apart. ⊎_elim
          (λ same.
          subst (λ (number : ℕ). Contains (get_or (set sets event.query new) number []) pair ↔ Contains (get_or sets number []) pair) same
          (subst (λ (list : List Pair). Contains list pair ↔ Contains (get_or sets event.query []) pair) (sym now)
          (subst (λ (list : List Pair). Contains new pair ↔ Contains list pair) is (others pair (λ pair_is. apart (same, pair_is))))))
          (λ differ.
          subst (λ (list : List Pair). Contains list pair ↔ Contains (get_or sets query []) pair)
          (sym (get_or-set_other sets event.query query new [] (λ e. differ (sym e)))) ((λ member. member), (λ member. member)))
          (cases_eq event.query query);
    }

-- one event more
pub put_more : (first old new : List (List Pair)) (before after : List Event) (one : Event) → HasOneMore before one after →
    ((event : Event) → Contains before event → event.query ≡ one.query → event.pair ≡ one.pair → ⊥) → IsPut old new one → ArePut first old before →
    ArePut first new after
put_more first old new before after one step apart put so_far = record {
  told = λ event member. ⊎_elim
      (λ there.
      let same = put.others event.query event.pair (λ both. apart event there (sym both.0) (sym both.1)) in
      let was = so_far.told event there in (
        (λ added. same.1 (was.0 added)),
        (λ held. was.1 (same.0 held)),
      ))
      (λ here. subst (λ (each : Event). (each.added ≡ true) ↔ Contains (family new each.query) each.pair) here put.own)
      (step.cases event member);
  others = λ query pair none.
      let now = put.others query pair (λ both. none (one, step.here, both.0, both.1)) in
      let was = so_far.others query pair (λ named. none (named.0, step.still named.0 named.1, named.2, named.3)) in (
        (λ member. was.0 (now.0 member)),
        (λ member. now.1 (was.1 member)),
      );
}

-- an event is apart from those before it
pub apart_before : (events : List Event) (index : ℕ) (one : Event) → AreApart events → index < length events → one ≡ get_or events index one →
    (event : Event) → Contains (take index events) event → event.query ≡ one.query → event.pair ≡ one.pair → ⊥
apart_before events index one apart inside one_is event member query_is pair_is =
    let place = member.0 in
    let short = length-take index events in
    let within = member.1 in
    let below : place < index = omega (arith, within, short) in
    let is : get_or events place event ≡ event = sym (get_or-take index events place event below) ∙ member.2 in
    let later : get_or events index event ≡ one = get_or_default events index event one inside ∙ sym one_is in
    apart place index event below inside
    (ap (λ (each : Event). each.query) is ∙ (query_is ∙ ap (λ (each : Event). each.query) (sym later)))
    (ap (λ (each : Event). each.pair) is ∙ (pair_is ∙ ap (λ (each : Event). each.pair) (sym later)))
