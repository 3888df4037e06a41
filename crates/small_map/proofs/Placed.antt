-- The places of the keys among the entries.
use Rattle.std.proofs.Common.{◌≡◌, ◌≢◌, ◌<◌, ◌+◌, ◌-◌, ◌⊎◌, inl, inr, ℕ, zero, suc, Bool, true, false, cond, nat_lt, List, [], ◌∷◌, ◌++◌, length, get_or, take, option_map, Option, None, Some, slice_get, slice_set, position, Result, Ok, Err, OnOk, OnErr, refl, sym, ap, subst, ◌∙◌, true≢false, arith}
use Rattle.std.specs.Cmp.{IsEquivalence}
use Rattle.std.specs.List.{IsDistinct, swap_remove, position_or_len}
use Rattle.std.specs.Map.{keys_of, lookup}
use Rattle.std.proofs.lemmas.Bool.{cases_eq, ltb-false}
use Rattle.std.proofs.lemmas.List.Quantifiers.{position-Some}
use Rattle.std.proofs.lemmas.List.Sums.{fails_before_first}
use Rattle.std.proofs.lemmas.Map.Entries.{place_from_lookup}
use Rattle.std.proofs.lemmas.List.{get_or-set_same, get_or-set_other, length-take, take_more}
use Rattle.std.proofs.lemmas.Map.Keys.{apart_from_distinct}
use Rattle.std.proofs.lemmas.Option.{slice_get_within, get_or_from_slice_get, slice_get-map, slice_get-get_or}
use Rattle.small_map.specs.Places.{ArePlaced, IsPlace}
use Rattle.small_map.proofs.Entries.{none_or_some, some_is_one, none_from, by_test, set_elsewhere, stands_at, same_found}

-- of no keys, each is once
pub nothing_once : {K : Type 0} (eq : K → K → Bool) → IsDistinct eq []
unfolding IsDistinct
nothing_once eq = tt

-- ---- going through the entries

some_place : {X : Type 0} (test : X → Bool) (xs : List X) (place : ℕ) →
    position test xs ≡ Some place →
    (x : X) × (slice_get xs place ≡ Some x) × (test x ≡ true)
some_place test [] place is = absurd (none_or_some place is)
some_place test (x ∷ xs) place is =
    let (within, passes, before) = position-Some test (x ∷ xs) place x is in (
      get_or (x ∷ xs) place x,
      slice_get-get_or (x ∷ xs) place x within,
      passes,
    )

no_place : {X : Type 0} (test : X → Bool) (xs : List X) → position test xs ≡ None →
    (place : ℕ) (x : X) → slice_get xs place ≡ Some x → test x ≡ true → ⊥
no_place test xs none place x at passes =
    by (nat_lt (position_or_len test xs) (length xs)) refl none
  where
    by : (b : Bool) → nat_lt (position_or_len test xs) (length xs) ≡ b →
        cond b (Some (position_or_len test xs)) None ≡ None → ⊥
    by true less some = none_or_some (position_or_len test xs) (sym some)
    by false past is = true≢false (sym passes
        ∙ sym (ap test (get_or_from_slice_get xs place x x at))
        ∙ fails_before_first test xs place x (omega (
          arith,
          slice_get_within xs place x at,
          ltb-false (position_or_len test xs) (length xs) past,
        )))

-- the first that passes, or none
pub scanned : {K V : Type 0} (eq : K → K → Bool) (entries : List (K × V)) (key : K)
    (found : Option ℕ) → found ≡ position (λ (entry : K × V). eq key entry.0) entries →
    IsPlace eq entries key found
scanned {K} {V} eq entries key (Some place) is =
    some_place (λ (entry : K × V). eq key entry.0) entries place (sym is)
scanned {K} {V} eq entries key None is = none_from (lookup (eq key) entries) (λ value found.
    let (place, own, at, same) = place_from_lookup (eq key) entries value found in
    no_place (λ (entry : K × V). eq key entry.0) entries (sym is) place (own, value) at same)

-- ---- one element more, or less

push_cases : {X : Type 0} (xs : List X) (y : X) (k : ℕ) (x : X) →
    slice_get (xs ++ y ∷ []) k ≡ Some x →
    (slice_get xs k ≡ Some x) ⊎ ((k ≡ length xs) × (y ≡ x))
push_cases [] y zero x is = inr (refl, some_is_one y x is)
push_cases [] y (suc k) x is = absurd (none_or_some x is)
push_cases (z ∷ zs) y zero x is = inl is
push_cases (z ∷ zs) y (suc k) x is = elim (push_cases zs y k x is) [
  | inl there ↦ inl there
  | inr last ↦ inr (ap suc last.0, last.1)
]

take_cases : {X : Type 0} (n : ℕ) (xs : List X) (k : ℕ) (x : X) → slice_get (take n xs) k ≡ Some x →
    (k < n) × (slice_get xs k ≡ Some x)
take_cases zero xs k x is = absurd (none_or_some x is)
take_cases (suc n) [] k x is = absurd (none_or_some x is)
take_cases (suc n) (y ∷ ys) zero x is = (omega arith, is)
take_cases (suc n) (y ∷ ys) (suc k) x is =
    let (less, at) = take_cases n ys k x is in (omega (arith, less), at)

moved_from : {X : Type 0} (xs : List X) (place : ℕ) (d : X) (k : ℕ) (x : X) → place < length xs →
    slice_get (swap_remove xs place d) k ≡ Some x →
    ((k ≡ place) × (place ≢ length xs - 1) × (slice_get xs (length xs - 1) ≡ Some x))
    ⊎ ((k ≢ place) × (k ≢ length xs - 1) × (slice_get xs k ≡ Some x))
moved_from {X} xs place d k x within is = by (cases_eq k place)
  where
    last : X
    last = get_or xs (length xs - 1) d

    cut : (k < length xs - 1) × (slice_get (slice_set xs place last) k ≡ Some x)
    cut = take_cases (length xs - 1) (slice_set xs place last) k x is

    read : get_or (slice_set xs place last) k x ≡ x
    read = get_or_from_slice_get (slice_set xs place last) k x x cut.1

    by : (k ≡ place) ⊎ (k ≡ place → ⊥) →
        ((k ≡ place) × (place ≢ length xs - 1) × (slice_get xs (length xs - 1) ≡ Some x))
        ⊎ ((k ≢ place) × (k ≢ length xs - 1) × (slice_get xs k ≡ Some x))
    by (inl same) = inl (
      same,
      (λ end. omega (arith, cut.0, same, end)),
      slice_get-get_or xs (length xs - 1) d (omega (arith, within))
          ∙ ap Some (sym (get_or-set_same xs place last x within)
          ∙ ap (λ n. get_or (slice_set xs place last) n x) (sym same) ∙ read),
    )
    by (inr other) = inr (
      other,
      (λ end. omega (arith, cut.0, end)),
      slice_get-get_or xs k x (omega (arith, cut.0))
          ∙ ap Some (sym (get_or-set_other xs place k last x other) ∙ read),
    )

-- what a look-up doesn't find stands nowhere
none_passes : {K V : Type 0} (test : K → Bool) (entries : List (K × V)) →
    lookup test entries ≡ None → (place : ℕ) (entry : K × V) →
    slice_get entries place ≡ Some entry → test entry.0 ≡ true → ⊥
none_passes test [] none place entry at passes = none_or_some entry at
none_passes {K} {V} test (each ∷ rest) none place entry at passes =
    by (test each.0) refl none place at (none_passes test rest)
  where
    by : (b : Bool) → test each.0 ≡ b → cond b (Some each.1) (lookup test rest) ≡ None →
        (place : ℕ) → slice_get (each ∷ rest) place ≡ Some entry →
        (lookup test rest ≡ None → (later : ℕ) (found : K × V) →
        slice_get rest later ≡ Some found → test found.0 ≡ true → ⊥) → ⊥
    by true passed is place at later = none_or_some each.1 (sym is)
    by false fails is zero at later = true≢false (sym passes
        ∙ ap (λ (e : K × V). test e.0) (sym (some_is_one each entry at)) ∙ fails)
    by false fails is (suc place) at later = later is place entry at passes

module _ {K V : Type 0} {eq : K → K → Bool} (laws : IsEquivalence eq) where
  -- ---- look-ups

  -- a key without a place has no entry
  pub unplaced : (entries : List (K × V)) (places : List (K × ℕ)) (key : K) →
      ArePlaced eq entries places → lookup (eq key) places ≡ None → lookup (eq key) entries ≡ None
  unplaced entries places key placed none = none_from (lookup (eq key) entries) (λ value found.
      let (place, entry, at, same) = stands_at laws entries key value found in
      none_or_some place
      (sym none ∙ same_found laws key entry.0 same places ∙ placed place entry at))

  -- nor has one at whose place another entry stands, or none
  pub misplaced : (entries : List (K × V)) (places : List (K × ℕ)) (key : K) (place : ℕ) →
      ArePlaced eq entries places → lookup (eq key) places ≡ Some place →
      ((entry : K × V) → slice_get entries place ≡ Some entry → eq key entry.0 ≡ true → ⊥) →
      lookup (eq key) entries ≡ None
  misplaced entries places key place placed is never =
      none_from (lookup (eq key) entries) (λ value found.
      let (other, entry, at, same) = stands_at laws entries key value found in
      let here : other ≡ place = some_is_one other place
      (sym (placed other entry at) ∙ sym (same_found laws key entry.0 same places) ∙ is) in
      never entry (subst (λ k. slice_get entries k ≡ Some entry) here at) same)

  -- entries at two places have keys that differ
  apart : (entries : List (K × V)) (places : List (K × ℕ)) → ArePlaced eq entries places →
      (i j : ℕ) (one other : K × V) → slice_get entries i ≡ Some one →
      slice_get entries j ≡ Some other → j ≢ i → eq one.0 other.0 ≡ false
  apart entries places placed i j one other here there differ = by_test (eq one.0 other.0)
      (λ same. absurd (differ (some_is_one j i
      (sym (placed j other there) ∙ sym (same_found laws one.0 other.0 same places)
      ∙ placed i one here)))) (λ fails. fails)

  -- ---- changes

  -- the places of entries whose keys stay
  pub placed_set : (entries : List (K × V)) (places : List (K × ℕ)) (place : ℕ) (entry : K × V)
      (value : V) → ArePlaced eq entries places → slice_get entries place ≡ Some entry →
      ArePlaced eq (slice_set entries place (entry.0, value)) places
  placed_set entries places place entry value placed at other found is =
      let (was, stood, same) = set_elsewhere entries place entry value at other found is in
      ap (λ key. lookup (eq key) places) (sym same) ∙ placed other was stood

  -- one entry more
  pub placed_more : (entries : List (K × V)) (places more : List (K × ℕ)) (key : K) (value : V)
      (end : ℕ) → ArePlaced eq entries places → lookup (eq key) entries ≡ None →
      end ≡ length entries →
      ((each : K) → lookup (eq each) more
      ≡ cond (eq key each) (Some end) (lookup (eq each) places)) →
      ArePlaced eq (entries ++ (key, value) ∷ []) more
  placed_more entries places more key value end placed new last put place entry at =
      elim (push_cases entries (key, value) place entry at) [
        | inl there ↦ put entry.0
            ∙ ap (λ b. cond b (Some end) (lookup (eq entry.0) places))
            (by_test (eq key entry.0)
            (λ same. absurd (none_passes (eq key) entries new place entry there same))
            (λ fails. fails))
            ∙ placed place entry there
        | inr here ↦ put entry.0
            ∙ ap (λ b. cond b (Some end) (lookup (eq entry.0) places))
            (ap (λ (e : K × V). eq key e.0) (sym here.1) ∙ laws.refl key)
            ∙ ap Some (last ∙ sym here.0)
      ]

  -- one entry less: the last one came into its place
  pub placed_less : (entries : List (K × V)) (places after : List (K × ℕ)) (place : ℕ)
      (gone last : K × V) → ArePlaced eq entries places → slice_get entries place ≡ Some gone →
      slice_get entries (length entries - 1) ≡ Some last →
      ((each : K) → lookup (eq each) after
      ≡ cond (eq gone.0 each) None (cond (eq last.0 each) (Some place) (lookup (eq each) places))) →
      (d : K × V) → ArePlaced eq (swap_remove entries place d) after
  placed_less entries places after place gone last placed here end update d other entry at =
      elim (moved_from entries place d other entry (slice_get_within entries place gone here) at) [
        | inl moved ↦
            let own : last ≡ entry = some_is_one last entry (sym end ∙ moved.2) in
            update entry.0
            ∙ tests (eq gone.0 entry.0) (eq last.0 entry.0) false true
            (apart entries places placed place (length entries - 1) gone entry here moved.2
            (λ is. moved.1 (sym is)))
            (ap (λ (e : K × V). eq last.0 e.0) (sym own) ∙ laws.refl last.0)
            (Some place) (lookup (eq entry.0) places)
            ∙ ap Some (sym moved.0)
        | inr stays ↦
            update entry.0
            ∙ tests (eq gone.0 entry.0) (eq last.0 entry.0) false false
            (apart entries places placed place other gone entry here stays.2 stays.0)
            (apart entries places placed (length entries - 1) other last entry end stays.2
            stays.1)
            (Some place) (lookup (eq entry.0) places)
            ∙ placed other entry stays.2
      ]
    where
      tests : (one other b c : Bool) → one ≡ b → other ≡ c → (x y : Option ℕ) →
          cond one None (cond other x y) ≡ cond b None (cond c x y)
      tests one other b c is are x y =
          ap (λ t. cond t None (cond other x y)) is ∙ ap (λ t. cond b None (cond t x y)) are

-- what a call ensures that can't fail
pub told : {X E : Type 0} {P : Type 0} (result : Result X E) (found : Option ℕ) (place : ℕ) →
    found ≡ Some place → OnErr result (found ≡ None) → OnOk result P → P
told (Ok x) found place is absent so = so
told (Err e) found place is absent so = absurd (none_or_some place (sym absent ∙ is))

-- ---- the first of the entries

-- a key isn't among those before its place
pub none_before : {K V : Type 0} {eq : K → K → Bool} → IsEquivalence eq → (entries : List (K × V))
    (place : ℕ) (entry : K × V) → IsDistinct eq (keys_of entries) →
    slice_get entries place ≡ Some entry → lookup (eq entry.0) (take place entries) ≡ None
none_before {K} {V} {eq} laws entries place entry once at =
    none_from (lookup (eq entry.0) (take place entries)) (λ value found.
    let (other, own, stands, same) = stands_at laws (take place entries) entry.0 value found in
    let (less, there) = take_cases place entries other own stands in
    true≢false (sym same ∙ laws.symm entry.0 own.0
    ∙ sym (λ i. eq (key_read other own there i) (key_read place entry at i))
    ∙ apart_from_distinct eq (keys_of entries) other place entry.0 once less
    (slice_get_within (keys_of entries) place entry.0 (key_at place entry at))))
  where
    key_at : (k : ℕ) (each : K × V) → slice_get entries k ≡ Some each →
        slice_get (keys_of entries) k ≡ Some each.0
    key_at k each is =
        slice_get-map (λ (e : K × V). e.0) entries k ∙ ap (option_map (λ (e : K × V). e.0)) is

    key_read : (k : ℕ) (each : K × V) → slice_get entries k ≡ Some each →
        get_or (keys_of entries) k entry.0 ≡ each.0
    key_read k each is =
        get_or_from_slice_get (keys_of entries) k each.0 entry.0 (key_at k each is)

-- the next of the entries has its place
pub placed_next : {K V : Type 0} {eq : K → K → Bool} → IsEquivalence eq → (entries : List (K × V))
    (places more : List (K × ℕ)) (place : ℕ) (entry : K × V) → IsDistinct eq (keys_of entries) →
    ArePlaced eq (take place entries) places → slice_get entries place ≡ Some entry →
    ((each : K) → lookup (eq each) more
    ≡ cond (eq entry.0 each) (Some place) (lookup (eq each) places)) →
    ArePlaced eq (take (place + 1) entries) more
placed_next {K} {V} {eq} laws entries places more place entry once placed at put =
    subst (λ (first : List (K × V)). ArePlaced eq first more)
    (sym (take_more entries place entry within
    ∙ ap (λ (each : K × V). take place entries ++ each ∷ [])
    (get_or_from_slice_get entries place entry entry at)))
    (placed_more laws (take place entries) places more entry.0 entry.1 place placed
    (none_before laws entries place entry once at)
    (omega (arith, length-take place entries, within)) put)
  where
    within : place < length entries
    within = slice_get_within entries place entry at
