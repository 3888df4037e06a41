-- Look-ups in entries with distinct keys, by their places.
use Rattle.std.proofs.Common.{◌≡◌, ℕ, zero, suc, Bool, true, false, cond, is_some, List, [], ◌∷◌, ◌++◌, Option, None, Some, slice_get, slice_set, refl, sym, ap, subst, ◌∙◌, IsPermutation, Contains}
use Rattle.std.specs.Cmp.{IsEquivalence}
use Rattle.std.specs.List.{IsDistinct, swap_remove}
use Rattle.std.specs.Map.{keys_of, lookup}
use Rattle.std.proofs.lemmas.List.{map-append}
use Rattle.std.proofs.lemmas.List.Sorted.{IsPermutation-swap_remove, IsPermutation-sym, IsPermutation-map, Contains-permutation}
use Rattle.std.proofs.lemmas.Map.{lookup-none}
use Rattle.std.proofs.lemmas.Map.Entries.{lookup_from_place, place_from_lookup, none_past_head}
use Rattle.std.proofs.lemmas.Map.Keys.{IsDistinct-IsPermutation, IsDistinct-push, IsDistinct-tail}
use Rattle.std.proofs.lemmas.Map.Made.{is_some-lookup}
use Rattle.std.proofs.lemmas.Option.{slice_get_within, get_or_from_slice_get, slice_get-get_or}

pub none_or_some : {X : Type 0} (x : X) → None ≡ Some x → ⊥
none_or_some x is = cc

pub some_is_one : {X : Type 0} (x y : X) → Some x ≡ Some y → x ≡ y
some_is_one x y is = cc

-- an option that isn't something is none
pub none_from : {X : Type 0} (found : Option X) → ((x : X) → found ≡ Some x → ⊥) → found ≡ None
none_from None never = refl
none_from (Some x) never = absurd (never x refl)

-- a test passes or fails
pub by_test : {P : Type 0} (b : Bool) → (b ≡ true → P) → (b ≡ false → P) → P
by_test true passes fails = passes refl
by_test false passes fails = fails refl

-- what is at a place is in the list
contains_at : {X : Type 0} (xs : List X) (place : ℕ) (x : X) → slice_get xs place ≡ Some x →
    Contains xs x
contains_at xs place x at = (
  place,
  slice_get_within xs place x at,
  get_or_from_slice_get xs place x x at,
)

at_contains : {X : Type 0} (xs : List X) (x : X) → Contains xs x →
    (place : ℕ) × (slice_get xs place ≡ Some x)
at_contains xs x (place, within, is) = (place, slice_get-get_or xs place x within ∙ ap Some is)

-- ---- one value in the place of another

pub set_there : {X : Type 0} (xs : List X) (place : ℕ) (x y : X) → slice_get xs place ≡ Some x →
    slice_get (slice_set xs place y) place ≡ Some y
set_there [] place x y at = absurd (none_or_some x at)
set_there (z ∷ zs) zero x y at = refl
set_there (z ∷ zs) (suc place) x y at = set_there zs place x y at

-- the keys stay
pub same_keys : {K V : Type 0} (entries : List (K × V)) (place : ℕ) (entry : K × V) (value : V) →
    slice_get entries place ≡ Some entry →
    keys_of (slice_set entries place (entry.0, value)) ≡ keys_of entries
same_keys [] place entry value at = absurd (none_or_some entry at)
same_keys (each ∷ rest) zero entry value at =
    λ i. (some_is_one entry each (sym at) i).0 ∷ keys_of rest
same_keys (each ∷ rest) (suc place) entry value at =
    ap (λ keys. each.0 ∷ keys) (same_keys rest place entry value at)

-- at another place all is as it was
pub set_elsewhere : {K V : Type 0} (entries : List (K × V)) (place : ℕ) (entry : K × V) (value : V) →
    slice_get entries place ≡ Some entry →
    (other : ℕ) (found : K × V) →
    slice_get (slice_set entries place (entry.0, value)) other ≡ Some found →
    (was : K × V) × (slice_get entries other ≡ Some was) × (was.0 ≡ found.0)
set_elsewhere [] place entry value at other found is = absurd (none_or_some entry at)
set_elsewhere (each ∷ rest) zero entry value at zero found is = (
  each,
  refl,
  ap (λ e. e.0) (some_is_one each entry at) ∙ ap (λ e. e.0) (some_is_one (entry.0, value) found is),
)
set_elsewhere (each ∷ rest) zero entry value at (suc other) found is = (found, is, refl)
set_elsewhere (each ∷ rest) (suc place) entry value at zero found is = (found, is, refl)
set_elsewhere (each ∷ rest) (suc place) entry value at (suc other) found is =
    set_elsewhere rest place entry value at other found is

-- a look-up that passes it over finds what it found
passed_over : {K V : Type 0} (test : K → Bool) (entries : List (K × V)) (place : ℕ) (entry : K × V)
    (value : V) → slice_get entries place ≡ Some entry → test entry.0 ≡ false →
    lookup test (slice_set entries place (entry.0, value)) ≡ lookup test entries
passed_over test [] place entry value at fails = absurd (none_or_some entry at)
passed_over test (each ∷ rest) zero entry value at fails =
    ap (λ b. cond b (Some value) (lookup test rest)) fails
    ∙ sym (ap (λ b. cond b (Some each.1) (lookup test rest))
    (ap (λ (e : _ × _). test e.0) (some_is_one each entry at) ∙ fails))
passed_over test (each ∷ rest) (suc place) entry value at fails =
    ap (cond (test each.0) (Some each.1)) (passed_over test rest place entry value at fails)

-- ---- one entry more

pushed : {K V : Type 0} (test : K → Bool) (entries : List (K × V)) (key : K) (value : V) →
    test key ≡ false → lookup test (entries ++ (key, value) ∷ []) ≡ lookup test entries
pushed test [] key value fails = ap (λ b. cond b (Some value) None) fails
pushed test (each ∷ rest) key value fails =
    ap (cond (test each.0) (Some each.1)) (pushed test rest key value fails)

pushed_new : {K V : Type 0} (test : K → Bool) (entries : List (K × V)) (key : K) (value : V) →
    test key ≡ true → lookup test entries ≡ None →
    lookup test (entries ++ (key, value) ∷ []) ≡ Some value
pushed_new test [] key value passes none = ap (λ b. cond b (Some value) None) passes
pushed_new {K} {V} test (each ∷ rest) key value passes none =
    by (test each.0) none (pushed_new test rest key value passes)
  where
    by : (b : Bool) → cond b (Some each.1) (lookup test rest) ≡ None →
        (lookup test rest ≡ None → lookup test (rest ++ (key, value) ∷ []) ≡ Some value) →
        cond b (Some each.1) (lookup test (rest ++ (key, value) ∷ [])) ≡ Some value
    by true none later = absurd (none_or_some each.1 (sym none))
    by false none later = later none

-- equal keys find the same
pub same_found : {K X : Type 0} {eq : K → K → Bool} → IsEquivalence eq → (one other : K) →
    eq one other ≡ true → (entries : List (K × X)) →
    lookup (eq one) entries ≡ lookup (eq other) entries
same_found laws one other same [] = refl
same_found laws one other same (each ∷ rest) = λ i.
    cond (laws.congr one other each.0 same i) (Some each.1) (same_found laws one other same rest i)

module _ {K V : Type 0} {eq : K → K → Bool} (laws : IsEquivalence eq) where
  -- the value at the place of a key
  pub value_at : (entries : List (K × V)) (key : K) (place : ℕ) (entry : K × V) →
      IsDistinct eq (keys_of entries) → slice_get entries place ≡ Some entry →
      eq key entry.0 ≡ true → lookup (eq key) entries ≡ Some entry.1
  value_at entries key place entry once at same =
      same_found laws key entry.0 same entries
      ∙ lookup_from_place laws entries place entry.0 entry.1 once at

  -- where a key is found
  pub stands_at : (entries : List (K × V)) (key : K) (value : V) →
      lookup (eq key) entries ≡ Some value →
      (place : ℕ) × (entry : K × V) × (slice_get entries place ≡ Some entry)
      × (eq key entry.0 ≡ true)
  stands_at entries key value found =
      let (place, own, at, same) = place_from_lookup (eq key) entries value found in
      (place, (own, value), at, same)

  -- a value in the place of another
  pub value_set : (entries : List (K × V)) (key : K) (value : V) (place : ℕ) (entry : K × V) →
      IsDistinct eq (keys_of entries) → slice_get entries place ≡ Some entry →
      eq key entry.0 ≡ true → (each : K) →
      lookup (eq each) (slice_set entries place (entry.0, value))
      ≡ cond (eq key each) (Some value) (lookup (eq each) entries)
  value_set entries key value place entry once at same each =
      by_test (eq key each) (λ here.
      value_at (slice_set entries place (entry.0, value)) each place (entry.0, value)
      (subst (IsDistinct eq) (sym (same_keys entries place entry value at)) once)
      (set_there entries place entry (entry.0, value) at)
      (sym (laws.congr key each entry.0 here) ∙ same)
      ∙ sym (ap (λ b. cond b (Some value) (lookup (eq each) entries)) here))
      (λ apart. passed_over (eq each) entries place entry value at
      (laws.symm each entry.0 ∙ sym (laws.congr key entry.0 each same) ∙ apart)
      ∙ sym (ap (λ b. cond b (Some value) (lookup (eq each) entries)) apart))

  -- a new entry
  pub value_more : (entries : List (K × V)) (key : K) (value : V) →
      lookup (eq key) entries ≡ None → (each : K) →
      lookup (eq each) (entries ++ (key, value) ∷ [])
      ≡ cond (eq key each) (Some value) (lookup (eq each) entries)
  value_more entries key value new each =
      by_test (eq key each) (λ here.
      pushed_new (eq each) entries key value (laws.symm each key ∙ here)
      (sym (same_found laws key each here entries) ∙ new)
      ∙ sym (ap (λ b. cond b (Some value) (lookup (eq each) entries)) here))
      (λ apart. pushed (eq each) entries key value (laws.symm each key ∙ apart)
      ∙ sym (ap (λ b. cond b (Some value) (lookup (eq each) entries)) apart))

  pub once_more : (entries : List (K × V)) (key : K) (value : V) →
      IsDistinct eq (keys_of entries) → lookup (eq key) entries ≡ None →
      IsDistinct eq (keys_of (entries ++ (key, value) ∷ []))
  once_more entries key value once new =
      subst (IsDistinct eq) (sym (map-append (λ (e : K × V). e.0) entries ((key, value) ∷ [])))
      (IsDistinct-push laws (keys_of entries) key once
      (sym (is_some-lookup (eq key) entries) ∙ ap is_some new))

  -- ---- one entry less

  moves : (entries : List (K × V)) (place : ℕ) (entry : K × V) →
      slice_get entries place ≡ Some entry →
      IsPermutation entries (entry ∷ swap_remove entries place entry)
  moves entries place entry at =
      IsPermutation-swap_remove entries place entry (slice_get_within entries place entry at)
      (sym (get_or_from_slice_get entries place entry entry at))

  all_once : (entries : List (K × V)) (place : ℕ) (entry : K × V) →
      IsDistinct eq (keys_of entries) → slice_get entries place ≡ Some entry →
      IsDistinct eq (keys_of (entry ∷ swap_remove entries place entry))
  all_once entries place entry once at =
      IsDistinct-IsPermutation eq laws.symm (keys_of entries)
      (keys_of (entry ∷ swap_remove entries place entry))
      (IsPermutation-map (λ (e : K × V). e.0) entries (entry ∷ swap_remove entries place entry)
      (moves entries place entry at)) once

  pub once_less : (entries : List (K × V)) (place : ℕ) (entry : K × V) →
      IsDistinct eq (keys_of entries) → slice_get entries place ≡ Some entry →
      IsDistinct eq (keys_of (swap_remove entries place entry))
  once_less entries place entry once at =
      IsDistinct-tail eq entry.0 (keys_of (swap_remove entries place entry))
      (all_once entries place entry once at)

  -- entries in another order
  reordered : (one other : List (K × V)) → IsPermutation one other →
      IsDistinct eq (keys_of other) → (key : K) (value : V) → lookup (eq key) one ≡ Some value →
      lookup (eq key) other ≡ Some value
  reordered one other moved once key value found =
      let (place, own, at, same) = place_from_lookup (eq key) one value found in
      let (there, stands) = at_contains other (own, value)
      (Contains-permutation one other (own, value) moved (contains_at one place (own, value) at)) in
      value_at other key there (own, value) once stands same

  pub value_less : (entries : List (K × V)) (key : K) (place : ℕ) (entry : K × V) →
      IsDistinct eq (keys_of entries) → slice_get entries place ≡ Some entry →
      eq key entry.0 ≡ true → (each : K) →
      lookup (eq each) (swap_remove entries place entry)
      ≡ cond (eq key each) None (lookup (eq each) entries)
  value_less entries key place entry once at same each =
      by_test (eq key each) (λ here.
      lookup-none (eq each) left (none_past_head laws each entry left whole
      (sym (laws.congr key each entry.0 here) ∙ same))
      ∙ sym (ap (λ b. cond b None (lookup (eq each) entries)) here))
      (λ apart. sym (ap (λ b. cond b (Some entry.1) (lookup (eq each) left))
      (laws.symm each entry.0 ∙ sym (laws.congr key entry.0 each same) ∙ apart))
      ∙ both
      ∙ sym (ap (λ b. cond b None (lookup (eq each) entries)) apart))
    where
      left : List (K × V)
      left = swap_remove entries place entry

      whole : IsDistinct eq (keys_of (entry ∷ left))
      whole = all_once entries place entry once at

      both : lookup (eq each) (entry ∷ left) ≡ lookup (eq each) entries
      both = decide (lookup (eq each) entries) refl
        where
          decide : (found : Option V) → lookup (eq each) entries ≡ found →
              lookup (eq each) (entry ∷ left) ≡ lookup (eq each) entries
          decide (Some value) is =
              reordered entries (entry ∷ left) (moves entries place entry at) whole each value is
              ∙ sym is
          decide None is = none_from (lookup (eq each) (entry ∷ left)) (λ value there.
              none_or_some value (sym is ∙ reordered (entry ∷ left) entries
              (IsPermutation-sym entries (entry ∷ left) (moves entries place entry at)) once each
              value there)) ∙ sym is
