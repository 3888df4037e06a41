-- Pairs by the numbers of their names: their order, each once, and which of them are among others.
use Rattle.std.proofs.Common.{◌≡◌, ℕ, ◌+◌, ◌<◌, Bool, true, false, ◌==◌, ◌&&◌, cond, List, [], ◌∷◌, length, get_or, Result, Ok, Err, refl, sym, ap, ap₂, subst, ◌∙◌, ⊎_elim, arith}
use Rattle.std.specs.Prelude.{◌↔◌, Contains, is_ok}
use Rattle.std.specs.Cmp.{both_tied}
use Rattle.std.specs.Cmp.Lexicographic.{texts_ties}
use Rattle.std.specs.List.{dedup, dedup_from}
use Rattle.std.specs.List.Sorted.{IsSorted, IsStrictlySortedBy, IsPermutation, IsBinarySearchResult, IsSearchInRange}
use Rattle.std.specs.Ordering.{is_lt, ordering_reverse, eq_by_cmp}
use Rattle.std.specs.declared.cmp.Ordering.TheVariants.{Equal}
use Rattle.std.proofs.lemmas.Bool.{false_from_ne_true, cases_lt, eqb-true, eq-eqb}
use Rattle.std.proofs.lemmas.Cmp.{tied_itself}
use Rattle.std.proofs.lemmas.List.{get_or-map, length-map}
use Rattle.std.proofs.lemmas.List.Elements.{All-head, All-tail}
use Rattle.std.proofs.lemmas.List.Kept.{Contains-dedup, Contains-from_dedup, IsStrictlySortedBy-dedup}
use Rattle.std.proofs.lemmas.List.Sorted.{Contains-permutation, IsPermutation-map, IsPermutation-sym, searchable_from_sorted}
use Rattle.std.proofs.lemmas.Map.Keys.{Less-from_sorted}
use Rattle.std.proofs.lemmas.Option.{same_Some}
use Rattle.rpq_base.specs.Order.{name_cmp, pair_cmp}
use Rattle.rpq_base.specs.Same.{same_pair}
use Rattle.rpq_base.specs.declared.data.Pair.{Pair}
use Rattle.rpq_base.proofs.Equality.{same_tests, pairs as pair_test}
use Rattle.rpq_base.proofs.Orders.{pair_cmp_total, pair_cmp_exact}
use Rattle.rpq_model.proofs.Pairs.{has, has_iff, same_pair_equivalence}
use Rattle.name_table.specs.Keys.{beginning}
use Rattle.name_table.specs.Names.{name_at, number_of}
use Rattle.end_events.specs.declared.pairs.NumberedPair.{NumberedPair}
use Rattle.end_events.specs.Order.{numbered_cmp}
use Rattle.end_events.specs.Pairs.{pair_at, pairs_at, AreNumbered, IsNamed, IsNumbered}
use Rattle.end_events.proofs.Order.{numbered_is, numbered_total}

-- ---- one pair

-- by the numbers, and by the keys beside them
abbrev pub same_numbered : NumberedPair → NumberedPair → Bool
same_numbered first second =
    first.root == second.root && (first.vertex == second.vertex && (first.root_key == second.root_key && first.vertex_key == second.vertex_key))

-- numbers of one name are one
one_number : (names : List (List ℕ)) (first first_key second second_key : ℕ) →
    IsNamed names first first_key → IsNamed names second second_key → name_at names first ≡ name_at names second → first ≡ second
one_number names first first_key second second_key here there same =
    same_Some first second (sym here.found ∙ (ap (number_of names) same ∙ there.found))

-- and their keys are one
one_key : (names : List (List ℕ)) (first first_key second second_key : ℕ) →
    IsNamed names first first_key → IsNamed names second second_key → name_at names first ≡ name_at names second → first_key ≡ second_key
one_key names first first_key second second_key here there same = here.key_is ∙ ap beginning same ∙ sym there.key_is

-- four tests hold
all_hold : (a b c d : Bool) → a ≡ true → b ≡ true → c ≡ true → d ≡ true → (a && (b && (c && d))) ≡ true
all_hold a b c d p q r s = rw (p, q, r, s) refl

-- of four tests that hold the first two do
two_hold : (a b c d : Bool) → (a && (b && (c && d))) ≡ true → (a ≡ true) × (b ≡ true)
two_hold true true c d all = (refl, refl)
two_hold true false c d all = absurd cc
two_hold false b c d all = absurd cc

-- their numbers tell pairs apart
same_by_numbers : (names : List (List ℕ)) (first second : NumberedPair) → IsNumbered names first → IsNumbered names second →
    same_numbered first second ≡ same_pair (pair_at names first) (pair_at names second)
same_by_numbers names first second here there =
    same_tests (same_numbered first second) (same_pair (pair_at names first) (pair_at names second)) (
      (λ e.
          let parts = two_hold (first.root == second.root) (first.vertex == second.vertex) (first.root_key == second.root_key) (first.vertex_key == second.vertex_key) e in
          let from = ap (name_at names) (eqb-true first.root second.root parts.0) in
          let to = ap (name_at names) (eqb-true first.vertex second.vertex parts.1) in
          (pair_test (pair_at names first) (pair_at names second)).1 (λ i. record { from = from i; to = to i })),
      (λ e.
          let same = (pair_test (pair_at names first) (pair_at names second)).0 e in
          let from = ap (λ (pair : Pair). pair.from) same in
          let to = ap (λ (pair : Pair). pair.to) same in
          all_hold (first.root == second.root) (first.vertex == second.vertex) (first.root_key == second.root_key) (first.vertex_key == second.vertex_key)
          (eq-eqb first.root second.root (one_number names first.root first.root_key second.root second.root_key here.from there.from from))
          (eq-eqb first.vertex second.vertex (one_number names first.vertex first.vertex_key second.vertex second.vertex_key here.to there.to to))
          (eq-eqb first.root_key second.root_key (one_key names first.root first.root_key second.root second.root_key here.from there.from from))
          (eq-eqb first.vertex_key second.vertex_key (one_key names first.vertex first.vertex_key second.vertex second.vertex_key here.to there.to to))),
    )

-- pairs are equal where the order doesn't tell them apart
same_where_tied : (first second : Pair) → same_pair first second ≡ eq_by_cmp pair_cmp first second
same_where_tied first second =
    both_tied _ _ (name_cmp first.from second.from) (name_cmp first.to second.to)
    (texts_ties first.from second.from) (texts_ties first.to second.to)

-- ---- the order

-- any pair of numbers
abbrev pub no_pair : NumberedPair
no_pair = record { root = 0; vertex = 0; root_key = 0; vertex_key = 0 }

-- pairs are in the order of their numbers
pairs_sorted : (names : List (List ℕ)) (sorted : List NumberedPair) → AreNumbered names sorted →
    IsSorted (numbered_cmp names) sorted → IsSorted pair_cmp (pairs_at names sorted)
pairs_sorted names sorted all in_order = λ k d low high.
    let above : k + 1 < length sorted = omega (arith, high, length-map sorted (pair_at names)) in
    let below : k < length sorted = omega (arith, above) in
    ap₂ (λ (upper lower : Pair). is_lt (pair_cmp upper lower))
    (get_or-map (pair_at names) sorted (k + 1) no_pair d above)
    (get_or-map (pair_at names) sorted k no_pair d below)
    ∙ ap is_lt (sym (numbered_is names (get_or sorted (k + 1) no_pair) (get_or sorted k no_pair) (all (k + 1) no_pair above) (all k no_pair below)))
    ∙ in_order k no_pair low above

-- the pairs of a list without repeated neighbours have none either
pairs_from : (names : List (List ℕ)) (first : NumberedPair) (rest : List NumberedPair) → IsNumbered names first → AreNumbered names rest →
    pairs_at names (dedup_from same_numbered first rest) ≡ dedup_from same_pair (pair_at names first) (pairs_at names rest)
pairs_from names first [] here all = refl
pairs_from names first (next ∷ rest) here all =
    let there = All-head (IsNumbered names) next rest all in
    let later = All-tail (IsNumbered names) next rest all in
    by (same_numbered next first) (same_by_numbers names next first there here)
    (pairs_from names first rest here later) (pairs_from names next rest there later)
  where
    by : (same : Bool) → same ≡ same_pair (pair_at names next) (pair_at names first) →
        pairs_at names (dedup_from same_numbered first rest) ≡ dedup_from same_pair (pair_at names first) (pairs_at names rest) →
        pairs_at names (dedup_from same_numbered next rest) ≡ dedup_from same_pair (pair_at names next) (pairs_at names rest) →
        pairs_at names (cond same (dedup_from same_numbered first rest) (first ∷ dedup_from same_numbered next rest))
        ≡ cond (same_pair (pair_at names next) (pair_at names first)) (dedup_from same_pair (pair_at names first) (pairs_at names rest)) (pair_at names first ∷ dedup_from same_pair (pair_at names next) (pairs_at names rest))
    by true is kept further = kept ∙ ap (λ same. cond same (dedup_from same_pair (pair_at names first) (pairs_at names rest)) (pair_at names first ∷ dedup_from same_pair (pair_at names next) (pairs_at names rest))) is
    by false is kept further = ap (λ pairs. pair_at names first ∷ pairs) further ∙ ap (λ same. cond same (dedup_from same_pair (pair_at names first) (pairs_at names rest)) (pair_at names first ∷ dedup_from same_pair (pair_at names next) (pairs_at names rest))) is

pairs_once : (names : List (List ℕ)) (sorted : List NumberedPair) → AreNumbered names sorted →
    pairs_at names (dedup same_numbered sorted) ≡ dedup same_pair (pairs_at names sorted)
pairs_once names [] all = refl
pairs_once names (first ∷ rest) all =
    pairs_from names first rest (All-head (IsNumbered names) first rest all) (All-tail (IsNumbered names) first rest all)

-- each once
pub distinct_sorted : (names : List (List ℕ)) (sorted distinct : List NumberedPair) → AreNumbered names sorted →
    IsSorted (numbered_cmp names) sorted → distinct ≡ dedup same_numbered sorted → IsStrictlySortedBy pair_cmp (pairs_at names distinct)
distinct_sorted names sorted distinct all in_order is =
    subst (λ (pairs : List Pair). IsStrictlySortedBy pair_cmp pairs) (sym (ap (pairs_at names) is ∙ pairs_once names sorted all))
    (IsStrictlySortedBy-dedup pair_cmp_total same_where_tied (pairs_at names sorted) (pairs_sorted names sorted all in_order))

-- the same pairs in order, each once
pub distinct_same : (names : List (List ℕ)) (old sorted distinct : List NumberedPair) → AreNumbered names sorted →
    IsPermutation old sorted → distinct ≡ dedup same_numbered sorted →
    (pair : Pair) → Contains (pairs_at names distinct) pair ↔ Contains (pairs_at names old) pair
distinct_same names old sorted distinct all moved is pair =
    let moved_pairs = IsPermutation-map (pair_at names) old sorted moved in
    let pairs_are : pairs_at names distinct ≡ dedup same_pair (pairs_at names sorted) = ap (pairs_at names) is ∙ pairs_once names sorted all in (
      (λ member.
          Contains-permutation (pairs_at names sorted) (pairs_at names old) pair (IsPermutation-sym (pairs_at names old) (pairs_at names sorted) moved_pairs)
          (Contains-from_dedup same_pair (pairs_at names sorted) pair (subst (λ (pairs : List Pair). Contains pairs pair) pairs_are member))),
      (λ member.
          subst (λ (pairs : List Pair). Contains pairs pair) (sym pairs_are)
          (Contains-dedup same_pair_equivalence (λ first second. (pair_test first second).0) (pairs_at names sorted) pair
          (Contains-permutation (pairs_at names old) (pairs_at names sorted) pair moved_pairs member))),
    )

-- ---- a search

-- in strict order no pair is below the one before it
none_falls : (names : List (List ℕ)) (pairs : List NumberedPair) → AreNumbered names pairs →
    IsStrictlySortedBy pair_cmp (pairs_at names pairs) → IsSorted (numbered_cmp names) pairs
none_falls names pairs all sorted = λ k d low high.
    let below : k < length pairs = omega (arith, high) in
    let lower = pair_at names (get_or pairs k d) in
    let upper = pair_at names (get_or pairs (k + 1) d) in
    let less = Less-from_sorted pair_cmp (pairs_at names pairs) k (k + 1) (pair_at names d) sorted (omega arith) (omega (arith, high, length-map pairs (pair_at names))) in
    let here = get_or-map (pair_at names) pairs k d (pair_at names d) below in
    let next = get_or-map (pair_at names) pairs (k + 1) d (pair_at names d) high in
    ap is_lt (numbered_is names (get_or pairs (k + 1) d) (get_or pairs k d) (all (k + 1) d high) (all k d below)
    ∙ pair_cmp_total.antisymm upper lower ∙ ap ordering_reverse (sym (ap₂ pair_cmp here next) ∙ less))

-- what a binary search finds is whether the pair is among them
pub found_by_search : (names : List (List ℕ)) (found : Result ℕ ℕ) (others : List NumberedPair) (one : NumberedPair) →
    IsNumbered names one → AreNumbered names others → IsStrictlySortedBy pair_cmp (pairs_at names others) →
    IsBinarySearchResult (λ each. numbered_cmp names each one) others found → IsSearchInRange found (length others) →
    is_ok found ≡ has (pairs_at names others) (pair_at names one)
found_by_search names (Ok place) others one own all sorted found within =
    let each = get_or others place one in
    let same = pair_cmp_exact (pair_at names each) (pair_at names one) (sym (numbered_is names each one (all place one within) own) ∙ found one) in
    sym ((has_iff (pairs_at names others) (pair_at names one)).1 (
      place,
      omega (arith, within, length-map others (pair_at names)),
      get_or-map (pair_at names) others place one (pair_at names one) within ∙ same,
    ))
found_by_search names (Err gap) others one own all sorted found within =
    let pair = pair_at names one in
    let point = found (searchable_from_sorted (numbered_total names) (λ each. each) others one (none_falls names others all sorted)) in
    sym (false_from_ne_true (has (pairs_at names others) pair) (λ e.
    let member = (has_iff (pairs_at names others) pair).0 e in
    let place = member.0 in
    let below : place < length others = omega (arith, member.1, length-map others (pair_at names)) in
    let each = get_or others place one in
    let here : pair_at names each ≡ pair = sym (get_or-map (pair_at names) others place one pair below) ∙ member.2 in
    let tied : numbered_cmp names each one ≡ Equal =
    numbered_is names each one (all place one below) own ∙ ap (λ (other : Pair). pair_cmp other pair) here ∙ tied_itself pair_cmp_total pair in
    ⊎_elim
    (λ before. let less = point.0 place one (omega arith) before in cc)
    (λ after. let greater = point.1 place one after below in cc)
    (cases_lt place gap)))
