-- The events by the ends of their pairs.
use Rattle.std.proofs.Common.{◌≡◌, ℕ, Bool, true, false, not, List, [], ◌∷◌, map, Option, Some, None, refl, sym, ap, ◌∙◌, inl, inr, ⊎_elim, arith}
use Rattle.std.specs.Prelude.{◌↔◌, Contains, IsTrue, IsSome}
use Rattle.std.specs.Cmp.{IsEquivalence}
use Rattle.std.specs.List.{list_any}
use Rattle.std.specs.Option.{is_some}
use Rattle.std.proofs.lemmas.Bool.{false≢true, not-true}
use Rattle.std.proofs.lemmas.List.Elements.{Contains-append_left, Contains-append_right, Contains-append_cases}
use Rattle.std.proofs.lemmas.List.Kept.{IsStrictlySortedBy-filter}
use Rattle.std.proofs.lemmas.Map.Views.{Contains-from_any, list_any-from_Contains}
use Rattle.rpq_base.specs.Order.{pair_cmp}
use Rattle.rpq_base.specs.Same.{same_pair}
use Rattle.rpq_base.specs.declared.data.Pair.{Pair}
use Rattle.rpq_base.specs.declared.data.Event.{Event}
use Rattle.rpq_base.proofs.Equality.{same_tests, pairs as pair_test}
use Rattle.rpq_base.proofs.Members.{cons_members, kept_members}
use Rattle.answer_rows.specs.Answers.{Answer, AreRows, pair_of, pairs, until_of}
use Rattle.answer_rows.specs.Changes.{event, without, changes}
use Rattle.answer_rows.specs.Laws.{AreInOrder, IsChange}

-- ---- a pair is there where it has an end

turned : (first second : Pair) → same_pair first second ≡ same_pair second first
turned first second = same_tests (same_pair first second) (same_pair second first) (
  (λ e. (pair_test second first).1 (sym ((pair_test first second).0 e))),
  (λ e. (pair_test first second).1 (sym ((pair_test second first).0 e))),
)

-- the test for equal pairs is an equivalence
same_pair_equivalence : IsEquivalence same_pair
same_pair_equivalence = record {
  refl = λ pair. (pair_test pair pair).1 refl;
  symm = turned;
  congr = λ first second third e. ap (λ (pair : Pair). same_pair pair third) ((pair_test first second).0 e);
}

there_step : (test : Bool) (first : Answer) (rest : List Answer) (pair : Pair) → same_pair (pair_of first) pair ≡ test →
    list_any (same_pair pair) (pairs rest) ≡ is_some (until_of rest pair) →
    list_any (same_pair pair) (pairs (first ∷ rest)) ≡ is_some (until_of (first ∷ rest) pair)
there_step true first rest pair e further = rw (turned pair (pair_of first), e) refl
there_step false first rest pair e further = rw (turned pair (pair_of first), e) further

there_is_end : (rows : List Answer) (pair : Pair) → list_any (same_pair pair) (pairs rows) ≡ is_some (until_of rows pair)
there_is_end [] pair = refl
there_is_end (first ∷ rest) pair = there_step (same_pair (pair_of first) pair) first rest pair refl (there_is_end rest pair)

there_is_member : (rows : List Answer) (pair : Pair) → IsTrue (list_any (same_pair pair) (pairs rows)) ↔ Contains (pairs rows) pair
there_is_member rows pair = (
  Contains-from_any {eq = same_pair} (λ first second. (pair_test first second).0) pair (pairs rows),
  list_any-from_Contains same_pair_equivalence pair (pairs rows),
)

none_from : (found : Option ℕ) → is_some found ≡ false → found ≡ None
none_from None e = refl
none_from (Some n) e = absurd (false≢true (sym e))

-- the pairs that others lack have an end, and none among the others
lacking_members : (rows others : List Answer) (pair : Pair) →
    Contains (without (pairs rows) (pairs others)) pair ↔ (IsSome (until_of rows pair) × (until_of others pair ≡ None))
lacking_members rows others pair =
    let kept = kept_members (pairs rows) (λ (each : Pair). not (list_any (same_pair each) (pairs others))) pair in (
      (λ member.
          let both = kept.0 member in (
            sym (there_is_end rows pair) ∙ (there_is_member rows pair).1 both.0,
            none_from (until_of others pair) (sym (there_is_end others pair) ∙ not-true (list_any (same_pair pair) (pairs others)) both.1),
          )),
      (λ both. kept.1 (
        (there_is_member rows pair).0 (there_is_end rows pair ∙ both.0),
        ap not (there_is_end others pair ∙ ap is_some both.1),
      )),
    )

-- ---- the events of some pairs

event_members : (some : List Pair) (query : ℕ) (added : Bool) (each : Event) →
    Contains (map (event query added) some) each ↔ ((pair : Pair) × Contains some pair × (event query added pair ≡ each))
event_members [] query added each = (
  (λ member. absurd (omega (arith, member.1))),
  (λ found. absurd (omega (arith, found.1.1))),
)
event_members (first ∷ rest) query added each = (
  (λ member. ⊎_elim
      (λ here. (first, (cons_members first rest first).1 (inl refl), here))
      (λ later. let found = (event_members rest query added each).0 later in (found.0, (cons_members first rest found.0).1 (inr found.1), found.2))
      ((cons_members (event query added first) (map (event query added) rest) each).0 member)),
  (λ found. (cons_members (event query added first) (map (event query added) rest) each).1 (⊎_elim
      (λ here. inl (ap (event query added) here ∙ found.2))
      (λ later. inr ((event_members rest query added each).1 (found.0, later, found.2)))
      ((cons_members first rest found.0).0 found.1))),
)

made : (query : ℕ) (each : Event) (added : Bool) → each.query ≡ query → each.added ≡ added → event query added each.pair ≡ each
made query each added number kind = λ i. record { query = sym number i; added = sym kind i; pair = each.pair }

-- the events of one kind
kind_members : (rows others : List Answer) (query : ℕ) (added : Bool) (each : Event) →
    Contains (map (event query added) (without (pairs rows) (pairs others))) each
    ↔ ((each.query ≡ query) × (each.added ≡ added) × IsSome (until_of rows each.pair) × (until_of others each.pair ≡ None))
kind_members rows others query added each = (
  (λ member.
      let found = (event_members (without (pairs rows) (pairs others)) query added each).0 member in
      let both = (lacking_members rows others found.0).0 found.1 in
      let is = ap (λ (one : Event). one.pair) found.2 in (
        sym (ap (λ (one : Event). one.query) found.2),
        sym (ap (λ (one : Event). one.added) found.2),
        ap (λ (pair : Pair). is_some (until_of rows pair)) (sym is) ∙ both.0,
        ap (until_of others) (sym is) ∙ both.1,
      )),
  (λ all. (event_members (without (pairs rows) (pairs others)) query added each).1 (
    each.pair,
    (lacking_members rows others each.pair).1 (all.2, all.3),
    made query each added all.0 all.1,
  )),
)

-- the events are exactly the changes
pub events_are_changes : (query : ℕ) (old new : List Answer) (each : Event) →
    Contains (changes query old new) each ↔ ((each.query ≡ query) × IsChange old new each)
events_are_changes query old new each =
    let losses = map (event query false) (without (pairs old) (pairs new)) in
    let gains = map (event query true) (without (pairs new) (pairs old)) in (
      (λ member. ⊎_elim
          (λ loss. let all = (kind_members old new query false each).0 loss in (all.0, inl (all.1, all.2, all.3)))
          (λ gain. let all = (kind_members new old query true each).0 gain in (all.0, inr (all.1, all.3, all.2)))
          (Contains-append_cases losses gains each member)),
      (λ change. ⊎_elim
          (λ loss. Contains-append_left losses gains each ((kind_members old new query false each).1 (change.0, loss.0, loss.1, loss.2)))
          (λ gain. Contains-append_right losses gains each ((kind_members new old query true each).1 (change.0, gain.0, gain.2, gain.1)))
          change.1),
    )

-- losses come before gains, each sorted
pub events_are_in_order : (query : ℕ) (old new : List Answer) → AreRows old → AreRows new → AreInOrder query (changes query old new)
events_are_in_order query old new old_rows new_rows = record {
  losses = without (pairs old) (pairs new);
  gains = without (pairs new) (pairs old);
  split = refl;
  lost = IsStrictlySortedBy-filter pair_cmp (λ (pair : Pair). not (list_any (same_pair pair) (pairs new))) (pairs old) old_rows;
  gained = IsStrictlySortedBy-filter pair_cmp (λ (pair : Pair). not (list_any (same_pair pair) (pairs old))) (pairs new) new_rows;
}
