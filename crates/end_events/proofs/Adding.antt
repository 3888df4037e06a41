-- The pairs that are added for the changes in a list.
use Rattle.std.proofs.Common.{◌≡◌, ℕ, true, List, get_or, [], ◌∷◌, ◌++◌, Some, sym, ap, subst, ◌∙◌, inl, inr, ⊎_elim}
use Rattle.std.specs.Prelude.{◌↔◌, Contains}
use Rattle.std.specs.List.Sorted.{IsStrictlySortedBy}
use Rattle.std.proofs.lemmas.List.{map_push}
use Rattle.std.proofs.lemmas.List.Elements.{All-nil, All-push}
use Rattle.std.proofs.lemmas.List.Quantifiers.{position-Some}
use Rattle.rpq_base.specs.Order.{pair_cmp}
use Rattle.rpq_base.specs.Same.{same_name}
use Rattle.rpq_base.specs.declared.data.Pair.{Pair}
use Rattle.rpq_base.proofs.Equality.{names as name_test}
use Rattle.rpq_base.proofs.Members.{HasOneMore, cons_members, none_in, one_more}
use Rattle.rpq_model.specs.declared.mode.Mode.{Mode}
use Rattle.rpq_model.specs.Relations.{Adds}
use Rattle.rpq_model.proofs.Composing.{first_added, in_turn, then_added}
use Rattle.name_table.specs.Names.{number_of}
use Rattle.source_tree.specs.declared.change.EndChange.{EndChange}
use Rattle.end_events.specs.declared.pairs.NumberedPair.{NumberedPair}
use Rattle.source_tree.specs.declared.change.Outcome.{Outcome}
use Rattle.end_events.specs.Pairs.{gives_event, pair_at, pairs_at, AreGiven, AreNumbered, Gathers, IsGiven, IsNumbered}

-- names with one number are one
pub one_name : (names : List (List ℕ)) (first second : List ℕ) (number : ℕ) →
    number_of names first ≡ Some number → number_of names second ≡ Some number → first ≡ second
one_name names first second number is other =
    let here = position-Some (λ each. same_name first each) names number [] is in
    let there = position-Some (λ each. same_name second each) names number [] other in
    let at : List ℕ = get_or names number [] in
    (name_test first at).0 here.1 ∙ sym ((name_test second at).0 there.1)

-- pairs with the same numbers are one
one_pair : (names : List (List ℕ)) (root vertex : ℕ) (first second : Pair) →
    number_of names first.from ≡ Some root → number_of names first.to ≡ Some vertex →
    number_of names second.from ≡ Some root → number_of names second.to ≡ Some vertex → first ≡ second
one_pair names root vertex first second from to other_from other_to =
    let from_is = one_name names first.from second.from root from other_from in
    let to_is = one_name names first.to second.to vertex to other_to in
    λ i. record { from = from_is i; to = to_is i }

-- what a list gives, one with more gives too
still_given : (mode : Mode) (outcome : Outcome) (names : List (List ℕ)) (before : List EndChange) (each : EndChange) (after : List EndChange) (pair : Pair) →
    HasOneMore before each after → IsGiven mode outcome names before pair → IsGiven mode outcome names after pair
still_given mode outcome names before each after pair one given = record {
  each = given.each;
  member = one.still given.each given.member;
  from = given.from;
  to = given.to;
  gives = given.gives;
}

-- no change gives an event of a pair
pub none_given : (mode : Mode) (outcome : Outcome) (names : List (List ℕ)) (found : List Pair) → Adds found found (IsGiven mode outcome names [])
none_given mode outcome names found pair = (
  (λ member. inl member),
  (λ either. ⊎_elim (λ member. member) (λ given. absurd (none_in given.each given.member)) either),
)

-- a change that gives an event adds its pair
pub given_more : (mode : Mode) (outcome : Outcome) (names : List (List ℕ)) (before : List EndChange) (each : EndChange) (after : List EndChange)
    (old found more : List Pair) (new : Pair) →
    HasOneMore before each after → number_of names new.from ≡ Some each.root → number_of names new.to ≡ Some each.vertex →
    gives_event mode outcome each ≡ true → more ≡ found ++ new ∷ [] →
    Adds old found (IsGiven mode outcome names before) → Adds old more (IsGiven mode outcome names after)
given_more mode outcome names before each after old found more new one from to gives is so_far pair =
    let pushed = one_more found new in
    let here : IsGiven mode outcome names after new = record { each = each; member = one.here; from = from; to = to; gives = gives } in (
      (λ member. ⊎_elim
          (λ there. ⊎_elim (λ was. inl was) (λ given. inr (still_given mode outcome names before each after pair one given)) ((so_far pair).0 there))
          (λ same. inr (subst (λ (one : Pair). IsGiven mode outcome names after one) same here))
          (pushed.cases pair (subst (λ (all : List Pair). Contains all pair) is member))),
      (λ either. subst (λ (all : List Pair). Contains all pair) (sym is) (⊎_elim
          (λ was. pushed.still pair ((so_far pair).1 (inl was)))
          (λ given. ⊎_elim
          (λ earlier. pushed.still pair ((so_far pair).1 (inr (record { each = given.each; member = earlier; from = given.from; to = given.to; gives = given.gives }))))
          (λ same. subst (λ (one : Pair). Contains (found ++ new ∷ []) one)
          (one_pair names each.root each.vertex new pair from to
          (given.from ∙ ap (λ (change : EndChange). Some change.root) (sym same))
          (given.to ∙ ap (λ (change : EndChange). Some change.vertex) (sym same)))
          pushed.here)
          (one.cases given.each given.member))
          either)),
    )

-- ---- lists of numbered pairs

-- no change adds none
pub gathers_none : (mode : Mode) (outcome : Outcome) (names : List (List ℕ)) (found : List NumberedPair) → Gathers mode outcome names [] found found
gathers_none mode outcome names found = record {
  adds = none_given mode outcome names (pairs_at names found);
  numbered = λ all. all;
}

-- what one change gives, a list with it gives too
given_by_one : (mode : Mode) (outcome : Outcome) (names : List (List ℕ)) (before : List EndChange) (each : EndChange) (after : List EndChange) (pair : Pair) →
    HasOneMore before each after → IsGiven mode outcome names (each ∷ []) pair → IsGiven mode outcome names after pair
given_by_one mode outcome names before each after pair one given = record {
  each = given.each;
  member = ⊎_elim
      (λ here. subst (Contains after) here one.here)
      (λ none. absurd (none_in given.each none))
      ((cons_members each [] given.each).0 given.member);
  from = given.from;
  to = given.to;
  gives = given.gives;
}

-- a change more
pub gathers_more : (mode : Mode) (outcome : Outcome) (names : List (List ℕ)) (before : List EndChange) (each : EndChange) (after : List EndChange)
    (old found more : List NumberedPair) → HasOneMore before each after →
    Gathers mode outcome names before old found → Gathers mode outcome names (each ∷ []) found more → Gathers mode outcome names after old more
gathers_more mode outcome names before each after old found more one so_far next = record {
  adds = λ pair. (
    (λ member. ⊎_elim
        (λ there. ⊎_elim
        (λ was. inl was)
        (λ given. inr (still_given mode outcome names before each after pair one given))
        ((so_far.adds pair).0 there))
        (λ given. inr (given_by_one mode outcome names before each after pair one given))
        ((next.adds pair).0 member)),
    (λ either. (next.adds pair).1 (⊎_elim
        (λ was. inl ((so_far.adds pair).1 (inl was)))
        (λ given. ⊎_elim
        (λ earlier. inl ((so_far.adds pair).1 (inr (record { each = given.each; member = earlier; from = given.from; to = given.to; gives = given.gives }))))
        (λ same. inr (record { each = given.each; member = (cons_members each [] given.each).1 (inl same); from = given.from; to = given.to; gives = given.gives }))
        (one.cases given.each given.member))
        either)),
  );
  numbered = λ all. next.numbered (so_far.numbered all);
}

-- one change whose event adds its pair
pub gathers_one : (mode : Mode) (outcome : Outcome) (names : List (List ℕ)) (each : EndChange) (found more : List NumberedPair) (new : NumberedPair) →
    new.root ≡ each.root → new.vertex ≡ each.vertex → IsNumbered names new → gives_event mode outcome each ≡ true →
    more ≡ found ++ new ∷ [] → Gathers mode outcome names (each ∷ []) found more
gathers_one mode outcome names each found more new root vertex numbered gives is = record {
  adds = given_more mode outcome names [] each (each ∷ []) (pairs_at names found) (pairs_at names found) (pairs_at names more) (pair_at names new)
      (one_more [] each)
      (numbered.from.found ∙ ap (λ number. Some number) root)
      (numbered.to.found ∙ ap (λ number. Some number) vertex)
      gives
      (ap (pairs_at names) is ∙ map_push (pair_at names) found new)
      (none_given mode outcome names (pairs_at names found));
  numbered = λ all. subst (λ (pairs : List NumberedPair). AreNumbered names pairs) (sym is) (All-push (IsNumbered names) found new all numbered);
}

-- no pairs are numbered
pub none_numbered : (names : List (List ℕ)) (none : List NumberedPair) → none ≡ [] → AreNumbered names none
none_numbered names none is = subst (λ (pairs : List NumberedPair). AreNumbered names pairs) (sym is) (All-nil (IsNumbered names))

-- what two lists of changes add to none, in order, each once
pub are_given : (mode : Mode) (outcome : Outcome) (names : List (List ℕ)) (first second : List EndChange) (none found all ordered : List NumberedPair) →
    none ≡ [] → Gathers mode outcome names first none found → Gathers mode outcome names second found all →
    AreNumbered names ordered → IsStrictlySortedBy pair_cmp (pairs_at names ordered) →
    ((pair : Pair) → Contains (pairs_at names ordered) pair ↔ Contains (pairs_at names all) pair) →
    AreGiven mode outcome names first second ordered
are_given mode outcome names first second none found all ordered empty early late numbered sorted same =
    let one = first_added (IsGiven mode outcome names first) (pairs_at names none) (pairs_at names found) (ap (pairs_at names) empty) early.adds in
    let both = then_added (IsGiven mode outcome names first) (IsGiven mode outcome names second) (pairs_at names found) (pairs_at names all) one late.adds in
    record {
      numbered = numbered;
      exactly = record { sorted = sorted; exact = λ pair. in_turn (same pair) (both pair) };
    }
