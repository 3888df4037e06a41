-- The bindings of the symmetric join, and how they change.
use Rattle.std.proofs.Common.{◌≡◌, ℕ, zero, suc, Bool, true, false, List, [], ◌∷◌, map, Some, codes, refl, sym, ap, ap₂, subst, ◌∙◌, ◌⊎◌, inl, inr, ⊎_elim, arith}
use Rattle.std.specs.Prelude.{◌↔◌, Contains, slice_get}
use Rattle.std.specs.List.Sorted.{IsStrictlySortedBy}
use Rattle.std.specs.declared.cmp.Ordering.{Ordering}
use Rattle.std.specs.declared.cmp.Ordering.TheVariants.{Less}
use Rattle.std.proofs.lemmas.Bool.{false≢true}
use Rattle.std.proofs.lemmas.List.Elements.{All-nil, All-cons}
use Rattle.std.proofs.lemmas.Option.{same_Some}
use Rattle.std.proofs.lemmas.Slice.Eq.{bytes_eq-Decides}
use Rattle.rpq_base.proofs.Members.{none_in, cons_members}
use Rattle.rpq_base.proofs.Sorted.{sorted_nil, sorted_cons}
use Rattle.rpq_base.specs.declared.data.Pair.{Pair}
use Rattle.join_file.specs.declared.data.Term.TheVariants.{Variable}
use Rattle.join_bindings.specs.declared.event.JoinEvent.{JoinEvent}
use Rattle.join_file.specs.Joins.{JoinValue}
use Rattle.join_bindings.specs.Bindings.{IsMet, IsBinding, binding_cmp, AreBindings}
use Rattle.join_bindings.specs.Events.{AreJoinEvents, join_event_cmp}
use Rattle.join_bindings.specs.Pairs.{pair}
use Rattle.join_file.specs.Examples.{atom}
use Rattle.join_bindings.specs.TextExamples.{event}
use Rattle.join_bindings.specs.BindingExamples.{symmetric, alone, xx, xy, yx, both, BindingExamples}
use Rattle.join_file.proofs.Mapping.{mapped}

-- two in order
two_sorted : {X : Type 0} (cmp : X → X → Ordering) (first second : X) → cmp first second ≡ Less → IsStrictlySortedBy cmp (first ∷ second ∷ [])
two_sorted cmp first second below =
    sorted_cons cmp first (second ∷ []) (All-cons (λ each. cmp first each ≡ Less) second [] below (All-nil (λ each. cmp first each ≡ Less)))
    (sorted_cons cmp second [] (All-nil (λ each. cmp second each ≡ Less)) (sorted_nil cmp))

-- ---- the bindings of the symmetric join

-- two names whose pair is there, and the turned one
record Turned (pairs : List Pair) (names : List (List ℕ)) : Type 0 where
  first : List ℕ
  second : List ℕ
  are : names ≡ both first second
  there : Contains pairs (pair first second)
  back : Contains pairs (pair second first)

met_pair : (pairs : List Pair) (from to : List ℕ) (one : Pair) → from ≡ one.from → to ≡ one.to → Contains pairs one → Contains pairs (pair from to)
met_pair pairs from to one is_from is_to member = subst (Contains pairs) (λ i. record { from = sym is_from i; to = sym is_to i }) member

turned : (pairs : List Pair) (names : List (List ℕ)) → IsBinding symmetric (alone pairs) names → Turned pairs names
turned pairs [] binding = absurd (omega (arith, binding.as_many))
turned pairs (first ∷ []) binding = absurd (omega (arith, binding.as_many))
turned pairs (first ∷ second ∷ third ∷ names) binding = absurd (omega (arith, binding.as_many))
turned pairs (first ∷ second ∷ []) binding =
    let one = binding.met (atom 0 (Variable 0) (Variable 1)) ((cons_members (atom 0 (Variable 0) (Variable 1)) (atom 0 (Variable 1) (Variable 0) ∷ []) (atom 0 (Variable 0) (Variable 1))).1 (inl refl)) in
    let two = binding.met (atom 0 (Variable 1) (Variable 0)) ((cons_members (atom 0 (Variable 0) (Variable 1)) (atom 0 (Variable 1) (Variable 0) ∷ []) (atom 0 (Variable 1) (Variable 0))).1
    (inr ((cons_members (atom 0 (Variable 1) (Variable 0)) [] (atom 0 (Variable 1) (Variable 0))).1 (inl refl)))) in
    record {
      first = first;
      second = second;
      are = refl;
      there = met_pair pairs first second one.0 (same_Some first one.0.from one.1.from) (same_Some second one.0.to one.1.to) one.2;
      back = met_pair pairs second first two.0 (same_Some second two.0.from two.1.from) (same_Some first two.0.to two.1.to) two.2;
    }

bound : (pairs : List Pair) (first second : List ℕ) → Contains pairs (pair first second) → Contains pairs (pair second first) →
    IsBinding symmetric (alone pairs) (both first second)
bound pairs first second there back = record {
  as_many = refl;
  met = λ each member. ⊎_elim
      (λ here. subst (IsMet (alone pairs) (both first second)) here (pair first second, record { from = refl; to = refl }, there))
      (λ later. ⊎_elim
      (λ here. subst (IsMet (alone pairs) (both first second)) here (pair second first, record { from = refl; to = refl }, back))
      (λ none. absurd (none_in each none))
      ((cons_members (atom 0 (Variable 1) (Variable 0)) [] each).0 later))
      ((cons_members (atom 0 (Variable 0) (Variable 1)) (atom 0 (Variable 1) (Variable 0) ∷ []) each).0 member);
}

-- ---- names and pairs that differ

x_y : codes "x" ≡ codes "y" → ⊥
x_y e = false≢true ((bytes_eq-Decides (codes "x") (codes "y")).1 e)

one_of : (pairs : Pair) (rest : List Pair) (first second : List ℕ) → Contains (pairs ∷ rest) (pair first second) →
    ((pairs.from ≡ first) × (pairs.to ≡ second)) ⊎ Contains rest (pair first second)
one_of pairs rest first second member = ⊎_elim
    (λ here. inl (ap (λ (each : Pair). each.from) here, ap (λ (each : Pair). each.to) here))
    (λ later. inr later)
    ((cons_members pairs rest (pair first second)).0 member)

-- ---- what they are over some pairs

none_yet : (names : List (List ℕ)) → IsBinding symmetric (alone (xy ∷ [])) names → ⊥
none_yet names binding =
    let is = turned (xy ∷ []) names binding in
    ⊎_elim
    (λ here. ⊎_elim
    (λ again. x_y (here.0 ∙ sym again.1))
    (λ none. none_in _ none)
    (one_of xy [] is.second is.first is.back))
    (λ none. none_in _ none)
    (one_of xy [] is.first is.second is.there)

nothing_at_all : (names : List (List ℕ)) → IsBinding symmetric (alone []) names → ⊥
nothing_at_all names binding = none_in _ (turned [] names binding).there

one_is : AreBindings symmetric (alone (xx ∷ [])) (both (codes "x") (codes "x") ∷ [])
one_is = record {
  sorted = sorted_cons binding_cmp (both (codes "x") (codes "x")) [] (All-nil (λ each. binding_cmp (both (codes "x") (codes "x")) each ≡ Less))
      (sorted_nil binding_cmp);
  exact = λ names. (
    (λ member. ⊎_elim
        (λ here. subst (IsBinding symmetric (alone (xx ∷ []))) here
        (bound (xx ∷ []) (codes "x") (codes "x") ((cons_members xx [] xx).1 (inl refl)) ((cons_members xx [] xx).1 (inl refl))))
        (λ none. absurd (none_in names none))
        ((cons_members (both (codes "x") (codes "x")) [] names).0 member)),
    (λ binding.
        let is = turned (xx ∷ []) names binding in
        ⊎_elim
        (λ here. (cons_members (both (codes "x") (codes "x")) [] names).1 (inl (ap₂ both here.0 here.1 ∙ sym is.are)))
        (λ none. absurd (none_in _ none))
        (one_of xx [] is.first is.second is.there)),
  );
}

two_are : AreBindings symmetric (alone (xy ∷ yx ∷ [])) (both (codes "x") (codes "y") ∷ both (codes "y") (codes "x") ∷ [])
two_are = record {
  sorted = two_sorted binding_cmp one two refl;
  exact = λ names. (
    (λ member. ⊎_elim
        (λ here. subst (IsBinding symmetric (alone pairs)) here (bound pairs (codes "x") (codes "y") has_xy has_yx))
        (λ later. ⊎_elim
        (λ here. subst (IsBinding symmetric (alone pairs)) here (bound pairs (codes "y") (codes "x") has_yx has_xy))
        (λ none. absurd (none_in names none))
        ((cons_members two [] names).0 later))
        ((cons_members one (two ∷ []) names).0 member)),
    (λ binding.
        let is = turned pairs names binding in
        ⊎_elim
        (λ here. (cons_members one (two ∷ []) names).1 (inl (ap₂ both here.0 here.1 ∙ sym is.are)))
        (λ later. ⊎_elim
        (λ here. (cons_members one (two ∷ []) names).1 (inr ((cons_members two [] names).1 (inl (ap₂ both here.0 here.1 ∙ sym is.are)))))
        (λ none. absurd (none_in _ none))
        (one_of yx [] is.first is.second later))
        (one_of xy (yx ∷ []) is.first is.second is.there)),
  );
}
  where
    pairs : List Pair
    pairs = xy ∷ yx ∷ []

    one : List (List ℕ)
    one = both (codes "x") (codes "y")

    two : List (List ℕ)
    two = both (codes "y") (codes "x")

    has_xy : Contains (xy ∷ yx ∷ []) xy
    has_xy = (cons_members xy (yx ∷ []) xy).1 (inl refl)

    has_yx : Contains (xy ∷ yx ∷ []) yx
    has_yx = (cons_members xy (yx ∷ []) yx).1 (inr ((cons_members yx [] yx).1 (inl refl)))

-- ---- how they change

-- the only join
only : (number : ℕ) (join : JoinValue) → slice_get (symmetric ∷ []) number ≡ Some join → (0 ≡ number) × (symmetric ≡ join)
only zero join e = (refl, same_Some symmetric join e)
only (suc number) join e = absurd cc

-- the events of one kind, where the one family has these bindings and the other none
all_of : (added : Bool) (bindings : List (List (List ℕ))) (each : JoinEvent) →
    Contains (map (event added) bindings) each ↔ ((0 ≡ each.join) × (each.added ≡ added) × Contains bindings each.binding)
all_of added bindings each =
    let is = mapped (event added) bindings each in (
      (λ member.
          let from = is.0 member in (
            ap (λ (e : JoinEvent). e.join) from.2,
            sym (ap (λ (e : JoinEvent). e.added) from.2),
            subst (Contains bindings) (ap (λ (e : JoinEvent). e.binding) from.2) from.1,
          )),
      (λ all. is.1 (each.binding, all.2, λ i. record { join = all.0 i; added = sym all.1 i; binding = each.binding })),
    )

all_gained : (before after : List Pair) (bindings : List (List (List ℕ))) → ((names : List (List ℕ)) → IsBinding symmetric (alone before) names → ⊥) →
    AreBindings symmetric (alone after) bindings → IsStrictlySortedBy join_event_cmp (map (event true) bindings) →
    AreJoinEvents (symmetric ∷ []) (alone before) (alone after) (map (event true) bindings)
all_gained before after bindings none are sorted = record {
  sorted = sorted;
  exact = λ each.
      let all = all_of true bindings each in (
        (λ member.
            let is = all.0 member in
            let binding = (are.exact each.binding).0 is.2 in
            (symmetric, ap (slice_get (symmetric ∷ [])) (sym is.0), inr (is.1, record { was = binding; gone = none each.binding }))),
        (λ change.
            let is = only each.join change.0 change.1 in
            ⊎_elim
            (λ loss. absurd (none each.binding (subst (λ (join : JoinValue). IsBinding join (alone before) each.binding) (sym is.1) loss.1.was)))
            (λ gain. all.1 (
              is.0,
              gain.0,
              (are.exact each.binding).1
                  (subst (λ (join : JoinValue). IsBinding join (alone after) each.binding) (sym is.1) gain.1.was),
            ))
            change.2),
      );
}

all_lost : (before after : List Pair) (bindings : List (List (List ℕ))) → ((names : List (List ℕ)) → IsBinding symmetric (alone after) names → ⊥) →
    AreBindings symmetric (alone before) bindings → IsStrictlySortedBy join_event_cmp (map (event false) bindings) →
    AreJoinEvents (symmetric ∷ []) (alone before) (alone after) (map (event false) bindings)
all_lost before after bindings none are sorted = record {
  sorted = sorted;
  exact = λ each.
      let all = all_of false bindings each in (
        (λ member.
            let is = all.0 member in
            let binding = (are.exact each.binding).0 is.2 in
            (symmetric, ap (slice_get (symmetric ∷ [])) (sym is.0), inl (is.1, record { was = binding; gone = none each.binding }))),
        (λ change.
            let is = only each.join change.0 change.1 in
            ⊎_elim
            (λ loss. all.1 (
              is.0,
              loss.0,
              (are.exact each.binding).1
                  (subst (λ (join : JoinValue). IsBinding join (alone before) each.binding) (sym is.1) loss.1.was),
            ))
            (λ gain. absurd (none each.binding (subst (λ (join : JoinValue). IsBinding join (alone after) each.binding) (sym is.1) gain.1.was)))
            change.2),
      );
}

one_sorted : (only : JoinEvent) → IsStrictlySortedBy join_event_cmp (only ∷ [])
one_sorted only = sorted_cons join_event_cmp only [] (All-nil (λ each. join_event_cmp only each ≡ Less)) (sorted_nil join_event_cmp)

pub binding_examples : BindingExamples
binding_examples = record {
  none = record {
    sorted = sorted_nil binding_cmp;
    exact = λ names. ((λ member. absurd (none_in names member)), (λ binding. absurd (none_yet names binding)));
  };
  two = two_are;
  once = all_gained [] (xx ∷ []) (both (codes "x") (codes "x") ∷ []) nothing_at_all one_is (one_sorted _);
  gained = all_gained (xy ∷ []) (xy ∷ yx ∷ []) (both (codes "x") (codes "y") ∷ both (codes "y") (codes "x") ∷ []) none_yet two_are
      (two_sorted join_event_cmp (event true (both (codes "x") (codes "y"))) (event true (both (codes "y") (codes "x"))) refl);
  lost = all_lost (xy ∷ yx ∷ []) (xy ∷ []) (both (codes "x") (codes "y") ∷ both (codes "y") (codes "x") ∷ []) none_yet two_are
      (two_sorted join_event_cmp (event false (both (codes "x") (codes "y"))) (event false (both (codes "y") (codes "x"))) refl);
}
