-- That there is a number for each row.
use Rattle.std.proofs.Common.{◌≡◌, ◌<◌, ◌≤◌, ◌+◌, ◌-◌, ◌^◌, ℕ, zero, suc, List, [], ◌∷◌, length, slice_index_or, slice_set, refl, subst, Option, None, Some, arith}
use Rattle.std.proofs.lemmas.List.{length-set}
use Rattle.std.proofs.lemmas.List.Sums.{sum_by-cons, sum_by-set}
use Rattle.edge_store.specs.Rows.{place_in, place_of, owners_by, owners_in, AreNumbered}

-- ---- how many vertices have a row

-- a number counts as its place says
by_none : (number : ℕ) → place_in number ≡ None → owners_by number ≡ 0
by_none zero none = refl
by_none (suc place) none = absurd cc

by_some : (number place : ℕ) → place_in number ≡ Some place → owners_by number ≡ 1
by_some zero place there = absurd cc
by_some (suc number) place there = refl

by_same : (first second : ℕ) → place_in first ≡ place_in second →
    owners_by first ≡ owners_by second
by_same zero zero same = refl
by_same zero (suc second) same = absurd cc
by_same (suc first) zero same = absurd cc
by_same (suc first) (suc second) same = refl

by_most : (number : ℕ) → owners_by number ≤ 1
by_most zero = omega arith
by_most (suc place) = omega arith

-- no more than there are slots
all_at_most : (slots : List ℕ) → owners_in slots ≤ length slots
all_at_most [] = omega arith
all_at_most (number ∷ slots) =
    omega (arith, sum_by-cons owners_by number slots, by_most number, all_at_most slots)

-- and fewer where a vertex that has a slot has no row
one_is_free : (slots : List ℕ) (vertex : ℕ) → place_of slots vertex ≡ None →
    vertex < length slots → owners_in slots < length slots
one_is_free [] vertex none within = absurd (omega (arith, within))
one_is_free (number ∷ slots) zero none within =
    omega (arith, sum_by-cons owners_by number slots, by_none number none, all_at_most slots)
one_is_free (number ∷ slots) (suc vertex) none within =
    omega (
      arith,
      sum_by-cons owners_by number slots,
      by_most number,
      one_is_free slots vertex none (omega (arith, within)),
    )

-- slots with the same places count the same
same_owners : (new old : List ℕ) → ((each : ℕ) → place_of new each ≡ place_of old each) →
    owners_in new ≡ owners_in old
same_owners [] [] same = refl
same_owners [] (other ∷ old) same =
    omega (
      arith,
      sum_by-cons owners_by other old,
      by_same 0 other (same 0),
      same_owners [] old (λ each. same (suc each)),
    )
same_owners (number ∷ new) [] same =
    omega (
      arith,
      sum_by-cons owners_by number new,
      by_same number 0 (same 0),
      same_owners new [] (λ each. same (suc each)),
    )
same_owners (number ∷ new) (other ∷ old) same =
    omega (
      arith,
      sum_by-cons owners_by number new,
      sum_by-cons owners_by other old,
      by_same number other (same 0),
      same_owners new old (λ each. same (suc each)),
    )

-- ---- numbers for the rows

-- a row more has a number, where it is for a vertex without one
pub next_number : (slots : List ℕ) (count vertex : ℕ) → AreNumbered slots count →
    place_of slots vertex ≡ None → vertex < length slots → count + 1 < 2 ^ 32
next_number slots count vertex are none within =
    omega (arith, are.owned, are.short, one_is_free slots vertex none within)

-- rows that go over to others have numbers
pub numbered_by : (slots slots' : List ℕ) (count : ℕ) → owners_in slots' ≡ owners_in slots →
    length slots' < 2 ^ 32 → AreNumbered slots count → AreNumbered slots' count
numbered_by slots slots' count same short are = record {
  owned = omega (arith, are.owned, same);
  short = short;
}

pub numbered_same : (slots slots' : List ℕ) (count : ℕ) →
    ((each : ℕ) → place_of slots' each ≡ place_of slots each) → length slots' < 2 ^ 32 →
    AreNumbered slots count → AreNumbered slots' count
numbered_same slots slots' count same short are =
    numbered_by slots slots' count (same_owners slots' slots same) short are

-- and so have those that are left when one goes
pub numbered_less : (slots : List ℕ) (count vertex place : ℕ) → AreNumbered slots count →
    place_of slots vertex ≡ Some place → vertex < length slots →
    AreNumbered (slice_set slots vertex 0) (count - 1)
numbered_less slots count vertex place are there within = record {
  owned = omega (
    arith,
    are.owned,
    by_some (slice_index_or slots vertex 0) place there,
    sum_by-set owners_by slots vertex 0 0 within,
  );
  short = omega (arith, are.short, length-set slots vertex 0);
}
