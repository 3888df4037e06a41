-- Lists of what some of the roots of a place have.
use Rattle.std.proofs.Common.{◌≡◌, ◌+◌, ℕ, zero, suc, ◌++◌, ◌∷◌, [], false, List, Option, None, Some, map, take, length, slice_get, Contains, refl, sym, ap, subst, ◌∙◌, nat_eq, arith, append_assoc}
use Rattle.std.specs.List.{IsDistinct, AllByRecursion, cons_option, filter_map}
use Rattle.std.specs.Map.{keys_of, lookup}
use Rattle.std.proofs.lemmas.Bool.{eqb-true}
use Rattle.std.proofs.lemmas.List.{take_more}
use Rattle.std.proofs.Math.Seq.{take-length}
use Rattle.std.proofs.lemmas.List.Elements.{filter_map-append, Contains-append_right}
use Rattle.std.proofs.lemmas.Map.Keys.{IsDistinct-cons, IsDistinct-head, IsDistinct-tail}
use Rattle.std.proofs.lemmas.Map.Entries.{place_from_lookup}
use Rattle.std.proofs.lemmas.Option.{slice_get_within, get_or_from_slice_get}
use Rattle.small_map.proofs.Entries.{none_or_some, some_is_one, value_at}
use Rattle.place_table.proofs.Entered.{number_laws}

-- one element more was looked at
pub filter_more : {X Y : Type 0} (h : X → Option Y) (xs : List X) (first now new : List Y) (k : ℕ)
    (x : X) → now ≡ first ++ filter_map h (take k xs) → slice_get xs k ≡ Some x →
    new ≡ now ++ cons_option (h x) [] → new ≡ first ++ filter_map h (take (k + 1) xs)
filter_more h xs first now new k x before at is =
    is ∙ ap (λ l. l ++ cons_option (h x) []) before
    ∙ append_assoc first (filter_map h (take k xs)) (cons_option (h x) [])
    ∙ ap (λ l. first ++ l) (sym (filter_map-append h (take k xs) (x ∷ [])))
    ∙ ap (λ l. first ++ filter_map h l)
    (ap (λ y. take k xs ++ y ∷ []) (sym (get_or_from_slice_get xs k x x at))
    ∙ sym (take_more xs k x (slice_get_within xs k x at)))

-- an element of which this is made
abbrev IsMade : {X Y : Type 0} → (X → Option Y) → List X → Y → Type 0
IsMade {X} h xs y = (k : ℕ) × (x : X) × (slice_get xs k ≡ Some x) × (h x ≡ Some y)

-- what is in the list was made of an element
pub from_filter : {X Y : Type 0} (h : X → Option Y) (xs : List X) (y : Y) →
    Contains (filter_map h xs) y → (k : ℕ) × (x : X) × (slice_get xs k ≡ Some x) × (h x ≡ Some y)
from_filter h [] y (k, within, is) = absurd (omega (arith, within))
from_filter {X} {Y} h (x ∷ xs) y has = by (h x) refl (from_filter h xs y) has
  where
    later : IsMade h xs y → IsMade h (x ∷ xs) y
    later (k, z, at, is) = (suc k, z, at, is)

    by : (found : Option Y) → h x ≡ found → (Contains (filter_map h xs) y → IsMade h xs y) →
        Contains (cons_option found (filter_map h xs)) y → IsMade h (x ∷ xs) y
    by None is rest has = later (rest has)
    by (Some one) is rest (zero, within, at) = (0, x, refl, is ∙ ap Some at)
    by (Some one) is rest (suc k, within, at) = later (rest (k, omega (arith, within), at))

-- and what is made of an element is in the list
pub in_filter : {X Y : Type 0} (h : X → Option Y) (xs : List X) (k : ℕ) (x : X) (y : Y) →
    slice_get xs k ≡ Some x → h x ≡ Some y → Contains (filter_map h xs) y
in_filter h [] k x y at is = absurd (none_or_some x at)
in_filter h (first ∷ xs) zero x y at is =
    subst (λ found. Contains (cons_option found (filter_map h xs)) y)
    (sym (ap h (some_is_one first x at) ∙ is)) (0, omega arith, refl)
in_filter {X} {Y} h (first ∷ xs) (suc k) x y at is = by (h first) (in_filter h xs k x y at is)
  where
    by : (found : Option Y) → Contains (filter_map h xs) y →
        Contains (cons_option found (filter_map h xs)) y
    by None has = has
    by (Some one) has = Contains-append_right (one ∷ []) (filter_map h xs) y has

-- nothing stands twice
pub none_once : IsDistinct nat_eq []
unfolding IsDistinct
none_once = tt

-- each stands once, if the elements do
module _ {X Y : Type 0} (h : ℕ × X → Option Y) (f : Y → ℕ)
    (own : (x : ℕ × X) (y : Y) → h x ≡ Some y → f y ≡ x.0) where
  all_apart : (root : ℕ) (xs : List (ℕ × X)) →
      AllByRecursion (λ each. nat_eq root each ≡ false) (keys_of xs) →
      AllByRecursion (λ each. nat_eq root each ≡ false) (map f (filter_map h xs))
  all_apart root [] apart = tt
  all_apart root (x ∷ xs) apart = by (h x) refl (all_apart root xs apart.1)
    where
      by : (found : Option Y) → h x ≡ found →
          AllByRecursion (λ each. nat_eq root each ≡ false) (map f (filter_map h xs)) →
          AllByRecursion (λ each. nat_eq root each ≡ false)
          (map f (cons_option found (filter_map h xs)))
      by None is rest = rest
      by (Some y) is rest = (ap (nat_eq root) (own x y is) ∙ apart.0, rest)

  pub once_filtered : (xs : List (ℕ × X)) → IsDistinct nat_eq (keys_of xs) →
      IsDistinct nat_eq (map f (filter_map h xs))
  once_filtered [] once = none_once
  once_filtered (x ∷ xs) once =
      by (h x) refl (once_filtered xs (IsDistinct-tail nat_eq x.0 (keys_of xs) once))
    where
      by : (found : Option Y) → h x ≡ found → IsDistinct nat_eq (map f (filter_map h xs)) →
          IsDistinct nat_eq (map f (cons_option found (filter_map h xs)))
      by None is rest = rest
      by (Some y) is rest = IsDistinct-cons nat_eq (f y) (map f (filter_map h xs))
          (subst (λ root. AllByRecursion (λ each. nat_eq root each ≡ false)
          (map f (filter_map h xs))) (sym (own x y is))
          (all_apart x.0 xs (IsDistinct-head nat_eq x.0 (keys_of xs) once))) rest

-- an entry is found by its key
pub entry_found : {X : Type 0} (xs : List (ℕ × X)) (k : ℕ) (x : ℕ × X) →
    IsDistinct nat_eq (keys_of xs) → slice_get xs k ≡ Some x → lookup (nat_eq x.0) xs ≡ Some x.1
entry_found xs k x once at = value_at number_laws xs x.0 k x once at (number_laws.refl x.0)

pub entry_of : {X : Type 0} (xs : List (ℕ × X)) (root : ℕ) (value : X) →
    lookup (nat_eq root) xs ≡ Some value → (k : ℕ) × (slice_get xs k ≡ Some (root, value))
entry_of {X} xs root value found =
    let (k, own, at, same) = place_from_lookup (nat_eq root) xs value found in
    (k, at ∙ ap (λ (r : ℕ). Some (r, value)) (sym (eqb-true root own same)))

-- all elements were looked at
pub filter_all : {X Y : Type 0} (h : X → Option Y) (xs : List X) (first now : List Y) (k : ℕ) →
    now ≡ first ++ filter_map h (take k xs) → k ≡ length xs → now ≡ first ++ filter_map h xs
filter_all h xs first now k is all =
    is ∙ ap (λ l. first ++ filter_map h l) (ap (λ n. take n xs) all ∙ take-length xs)
