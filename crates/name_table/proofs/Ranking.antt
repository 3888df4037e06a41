-- Ranks of names.
use Rattle.std.proofs.Common.{◌≡◌, ◌≢◌, true≢false, false, ◌<◌, ◌≤◌, ℕ, suc, List, [], ◌∷◌, ◌++◌, length, replicate, slice_index, refl, sym, ap, ap₂, subst, ◌∙◌, ⊎_elim, arith}
use Rattle.std.specs.Prelude.{Contains}
use Rattle.std.specs.List.{IsDistinct}
use Rattle.std.specs.List.Sorted.{IsPermutation, IsSorted}
use Rattle.std.specs.Cmp.{IsTotalOrder}
use Rattle.std.specs.Ordering.{nat_cmp, ordering_reverse, is_lt}
use Rattle.std.specs.declared.cmp.Ordering.{Ordering}
use Rattle.std.specs.declared.cmp.Ordering.TheVariants.{Less, Equal, Greater}
use Rattle.std.proofs.lemmas.Bool.{cases_lt}
use Rattle.std.proofs.lemmas.Cmp.{by_ranked, nat_cmp_total, nat_list_cmp_total, on_total, ranked, tied_itself}
use Rattle.std.proofs.lemmas.Map.Lookups.{exact_bytes}
use Rattle.std.proofs.lemmas.List.{get_or_default, get_or_append_left, get_or_push, get_or-replicate, length-append, length-replicate}
use Rattle.std.proofs.lemmas.List.Sorted.{All-permutation, Contains-permutation, length_permutation, sorted_far, ranks_by}
use Rattle.std.proofs.lemmas.Option.{same_Some, slice_get-get_or}
use Rattle.rpq_base.specs.Order.{name_cmp}
use Rattle.rpq_base.specs.Same.{same_name}
use Rattle.name_table.specs.Names.{name_at, number_of}
use Rattle.name_table.proofs.Numbers.{number_at}
use Rattle.name_table.specs.Ranks.{AreApart, ArePlaces, AreRanks, CountsUp, HasAll, Inverts}

-- ---- numbers by rank

-- one number more
pub counts_more : (count more : ℕ) (list : List ℕ) → more ≡ suc count → CountsUp count list → CountsUp more (list ++ count ∷ [])
counts_more count more list is counts = record {
  long = omega (arith, length-append list (count ∷ []), counts.long, is);
  own = λ number within. ⊎_elim
      (λ before. get_or_append_left list (count ∷ []) 0 number (omega (arith, before, counts.long)) ∙ counts.own number before)
      (λ after.
      let last : length list ≡ number = omega (arith, after, within, is, counts.long) in
      get_or_push list count 0 number last ∙ omega (arith, last, counts.long))
      (cases_lt number count);
}

-- those that have ranks stand at these, the others at their own places
pub has_all : (count : ℕ) (ranks first numbers : List ℕ) → length ranks ≤ count → AreApart ranks →
    CountsUp count first → Inverts (length ranks) ranks first numbers → HasAll count numbers
has_all count ranks first numbers few apart counts inverts =
    let long : length numbers ≡ count = inverts.long ∙ counts.long in
    let place_of : (place number : ℕ) → place < length numbers → slice_index numbers place ≡ number → Contains numbers number =
    λ place number within there. (place, within, get_or_default numbers place number 0 within ∙ there) in
    record {
      long = long;
      below = λ place d within. ⊎_elim
          (λ was. omega (arith, get_or_default numbers place d 0 within, was, counts.own place (omega (arith, within, long)), within, long))
          (λ low. omega (arith, get_or_default numbers place d 0 within, low, few))
          (inverts.bound place);
      each = λ number within. ⊎_elim
          (λ ranked. place_of (slice_index ranks number) number (omega (arith, apart.within number ranked, few, long))
          (apart.once _ number (inverts.there number ranked) ranked (inverts.back number ranked)))
          (λ new. place_of number number (omega (arith, within, long))
          (inverts.kept number (λ place below e. omega (arith, apart.within place below, e, new)) ∙ counts.own number within))
          (cases_lt number (length ranks));
    }

-- ---- places in an order

-- zeros that the order is put to are its places
pub are_places : (order zeros places : List ℕ) → HasAll (length order) order →
    zeros ≡ replicate (length order) 0 → Inverts (length order) order zeros places → ArePlaces order places
are_places order zeros places all is inverts =
    let long : length zeros ≡ length order = ap length is ∙ length-replicate (length order) 0 in
    let as_long : length places ≡ length order = inverts.long ∙ long in
    record {
      long = as_long;
      within = λ number within. ⊎_elim
          (λ was. omega (arith, was, ap (λ list. slice_index list number) is, get_or-replicate {A = ℕ} (length order) number 0 0 (omega (arith, within, as_long)), within))
          (λ low. omega (arith, low, as_long))
          (inverts.bound number);
      stands = λ number within.
          let there = all.each number (omega (arith, within, as_long)) in
          let is = get_or_default order there.0 0 number there.1 ∙ there.2 in
          ap (λ n. slice_index order (slice_index places n)) (sym is)
          ∙ (inverts.back there.0 there.1 ∙ is);
    }

-- the same numbers in another order
pub has_all_moved : (count : ℕ) (order moved : List ℕ) → HasAll count order → IsPermutation order moved → HasAll count moved
has_all_moved count order moved all moves = record {
  long = length_permutation order moved moves ∙ all.long;
  below = All-permutation (λ number. number < count) order moved moves all.below;
  each = λ number within. Contains-permutation order moved number moves (all.each number within);
}

-- they are as many as this
pub has_all_below : (count other : ℕ) (order : List ℕ) → HasAll count order → length order ≡ other → HasAll other order
has_all_below count other order all is = subst (λ n. HasAll n order) (sym all.long ∙ is) all

-- ---- the order of names

-- the order of the names of two numbers
abbrev pub number_cmp : List (List ℕ) → ℕ → ℕ → Ordering
number_cmp names first second = name_cmp (name_at names first) (name_at names second)

pub number_cmp_total : (names : List (List ℕ)) → IsTotalOrder (number_cmp names)
number_cmp_total names = on_total (name_at names) nat_list_cmp_total

-- numbers whose names tie are one
pub one_number : (names : List (List ℕ)) (first second : ℕ) → IsDistinct same_name names → first < length names → second < length names →
    number_cmp names first second ≡ Equal → first ≡ second
one_number names first second distinct here there tied =
    same_Some first second (
    sym (number_at names first _ distinct (slice_get-get_or names first [] here))
    ∙ ap (number_of names) (exact_bytes (name_at names first) (name_at names second) tied)
    ∙ number_at names second _ distinct (slice_get-get_or names second [] there)
    )

-- ranks of names are apart
pub ranks_apart : (names : List (List ℕ)) (ranks : List ℕ) → IsDistinct same_name names → AreRanks names ranks → AreApart ranks
ranks_apart names ranks distinct are = record {
  within = are.within;
  once = λ first second here there same.
      one_number names first second distinct (omega (arith, here, are.few)) (omega (arith, there, are.few))
      (sym (are.follow first second here there)
      ∙ (ap (λ rank. nat_cmp rank (slice_index ranks second)) same ∙ tied_itself nat_cmp_total (slice_index ranks second)));
}

-- no names have no ranks
pub no_ranks : (names : List (List ℕ)) → AreRanks names []
no_ranks names = record {
  few = omega arith;
  within = λ number within. absurd (omega (arith, within));
  follow = λ first second here there. absurd (omega (arith, here));
}

-- ranks stay where a name comes in
pub ranks_kept : (names : List (List ℕ)) (name : List ℕ) (ranks : List ℕ) → AreRanks names ranks → AreRanks (names ++ name ∷ []) ranks
ranks_kept names name ranks are =
    let same : (number : ℕ) → number < length ranks → name_at names number ≡ name_at (names ++ name ∷ []) number =
    λ number within. sym (get_or_append_left names (name ∷ []) [] number (omega (arith, within, are.few))) in
    record {
      few = omega (arith, are.few, length-append names (name ∷ []));
      within = are.within;
      follow = λ first second here there. are.follow first second here there ∙ ap₂ name_cmp (same first here) (same second there);
    }

-- what isn't after and doesn't tie is before
less_from : (order back : Ordering) → back ≡ ordering_reverse order → is_lt back ≡ false → order ≢ Equal → order ≡ Less
less_from Less back is falls differ = refl
less_from Equal back is falls differ = absurd (differ refl)
less_from Greater back is falls differ = absurd (true≢false (sym (ap is_lt is) ∙ falls))

-- places in the order of names are ranks
pub are_ranks : (names : List (List ℕ)) (order places : List ℕ) → IsDistinct same_name names → HasAll (length names) order →
    IsSorted (number_cmp names) order → ArePlaces order places → AreRanks names places
are_ranks names order places distinct all sorted are =
    let long : length places ≡ length names = are.long ∙ all.long in
    let before : (first second : ℕ) → first < length places → second < length places →
    slice_index places first < slice_index places second → number_cmp names first second ≡ Less =
    λ first second here there less.
    let far = sorted_far (λ x y. is_lt (number_cmp names x y)) (ranks_by (number_cmp_total names) (λ n. n)) order sorted
    (slice_index places first) (slice_index places second) 0 (omega (arith, less)) (omega (arith, are.within second there, are.long)) in
    less_from (number_cmp names first second) (number_cmp names second first) ((number_cmp_total names).antisymm second first)
    (ap₂ (λ upper lower. is_lt (number_cmp names upper lower)) (sym (are.stands second there)) (sym (are.stands first here)) ∙ far)
    (λ tied. omega (
      arith,
      less,
      ap (slice_index places)
          (one_number names first second distinct (omega (arith, here, long)) (omega (arith, there, long)) tied),
    )) in
    record {
      few = omega (arith, long);
      within = are.within;
      follow = λ first second here there.
          let rank = slice_index places first in
          let other = slice_index places second in
          by_ranked (rank < other) (rank ≡ other) (other < rank) (nat_cmp rank other) (ranked rank other (nat_cmp rank other) refl)
          (λ is less. is ∙ sym (before first second here there less))
          (λ is same. is ∙ sym (
          ap (λ n. number_cmp names first n) (sym (sym (are.stands first here) ∙ (ap (slice_index order) same ∙ are.stands second there)))
          ∙ tied_itself (number_cmp_total names) first))
          (λ is less. is ∙ sym ((number_cmp_total names).antisymm first second ∙ ap ordering_reverse (before second first there here less)));
    }
