-- Entries of a row by their places.
use Rattle.std.proofs.Common.{◌≡◌, ◌<◌, ◌≤◌, ◌-◌, ℕ, zero, suc, Bool, true, false, cond, nat_lt, List, [], ◌∷◌, ◌++◌, length, get_or, slice_get, slice_set, position, Option, None, Some, is_some, Contains, Result, Ok, Err, IsOk, OnErr, refl, sym, ap, ap₂, subst, ◌∙◌, true≢false, append_assoc, arith, IsPermutation, ◌⊎◌, inl, inr}
use Rattle.std.specs.List.{IsDistinct, AllByRecursion, position_or_len, swap_remove}
use Rattle.std.specs.Map.{keys_of, lookup}
use Rattle.std.proofs.lemmas.Bool.{lt-ltb, ltb-true, ltb-false}
use Rattle.std.proofs.lemmas.List.{get_or_default, map-append, append-nil}
use Rattle.std.proofs.lemmas.List.Elements.{Contains-get_or, Contains-append_left}
use Rattle.std.proofs.lemmas.List.Quantifiers.{position-Some}
use Rattle.std.proofs.lemmas.List.Sorted.{IsPermutation-swap_remove, IsPermutation-append_left, IsPermutation-append_right, IsPermutation-trans, IsPermutation-middle}
use Rattle.std.proofs.lemmas.List.Sums.{fails_before_first}
use Rattle.std.proofs.lemmas.Map.Keys.{IsDistinct-head}
use Rattle.std.proofs.lemmas.Map.Views.{Contains-from_lookup, lookup-from_Contains}
use Rattle.std.proofs.lemmas.Option.{slice_get-get_or}
use Rattle.indexmap.specs.IndexMap.{IndexMap, set_value_at, swap_remove_entry, insert_entry}
use Rattle.indexmap.specs.Layout.{hash_map}
use Rattle.indexmap.proofs.CallerLemmas.{updates-with_value_at, keys-with_value_at, insert_entry-new, keys-insert_entry-present}
use Rattle.indexmap.proofs.MapLemmas.{Found-position, swap_remove_entry-found, swap_remove_entry-missing, lookup_permutation}
use Rattle.edge_store.specs.declared.edge.HalfEdge.{HalfEdge}
use Rattle.edge_store.specs.Edges.{same_half}
use Rattle.edge_store.specs.Row.{room_of}
use Rattle.edge_store.proofs.Halves.{same_half_is, same_half_laws}
use Rattle.edge_store.proofs.RowEntries.{either, lookup_both, distinct_less, distinct_more, distinct_moved}

-- ---- what a search by places finds

-- the entry found is that of the half edge
pub place_key : (few : List (HalfEdge × ℕ)) (half : HalfEdge) (at : ℕ) (entry : HalfEdge × ℕ) →
    position (λ (each : HalfEdge × ℕ). same_half half each.0) few ≡ Some at → entry ≡ get_or few at entry →
    (at < length few) × (half ≡ entry.0)
place_key few half at entry found is =
    let parts = position-Some (λ (each : HalfEdge × ℕ). same_half half each.0) few at entry found in
    (parts.0, same_half_is half entry.0 (ap (λ (e : HalfEdge × ℕ). same_half half e.0) is ∙ parts.1))

-- so a look-up finds its value
pub place_value : (few more : List (HalfEdge × ℕ)) (half : HalfEdge) (at : ℕ) (entry : HalfEdge × ℕ) → IsDistinct same_half (keys_of (few ++ more)) →
    position (λ (each : HalfEdge × ℕ). same_half half each.0) few ≡ Some at → entry ≡ get_or few at entry →
    lookup (same_half half) (few ++ more) ≡ Some entry.1
place_value few more half at entry distinct found is =
    let parts = place_key few half at entry found is in
    let there : Contains few entry = subst (Contains few) (sym is) (Contains-get_or few at entry parts.0) in
    let named : Contains few (half, entry.1) = subst (λ h. Contains few (h, entry.1)) (sym parts.1) there in
    lookup-from_Contains same_half_laws half entry.1 (few ++ more) distinct (Contains-append_left few more (half, entry.1) named)

-- where none is found, all fail
past_end : (test : HalfEdge × ℕ → Bool) (few : List (HalfEdge × ℕ)) → position test few ≡ None → length few ≤ position_or_len test few
past_end test few none = by (nat_lt (position_or_len test few) (length few)) refl none
  where
    by : (b : Bool) → nat_lt (position_or_len test few) (length few) ≡ b →
        cond b (Some (position_or_len test few)) None ≡ None → length few ≤ position_or_len test few
    by true within is = absurd cc
    by false past is = ltb-false (position_or_len test few) (length few) past

-- so a look-up finds nothing
pub place_none : (few : List (HalfEdge × ℕ)) (half : HalfEdge) → position (λ (each : HalfEdge × ℕ). same_half half each.0) few ≡ None →
    lookup (same_half half) few ≡ None
place_none few half none = by (lookup (same_half half) few) refl
  where
    test : HalfEdge × ℕ → Bool
    test each = same_half half each.0

    by : (found : Option ℕ) → lookup (same_half half) few ≡ found → found ≡ None
    by None is = refl
    by (Some value) is =
        let there = Contains-from_lookup same_half_is half value few is in
        let fails = fails_before_first (λ (each : HalfEdge × ℕ). same_half half each.0) few there.0 (half, value)
        (omega (arith, past_end (λ (each : HalfEdge × ℕ). same_half half each.0) few none, there.1)) in
        absurd (true≢false (sym (same_half_laws.refl half) ∙ sym (ap (λ (e : HalfEdge × ℕ). same_half half e.0) there.2) ∙ fails))

-- ---- a value that is set

set_both : (few more : List (HalfEdge × ℕ)) (at : ℕ) (entry : HalfEdge × ℕ) (value : ℕ) → at < length few → entry ≡ get_or few at entry →
    slice_set few at (entry.0, value) ++ more ≡ set_value_at (few ++ more) at value
set_both [] more at entry value within is = absurd (omega (arith, within))
set_both (x ∷ few) more zero entry value within is = ap (λ (e : HalfEdge × ℕ). (e.0, value) ∷ (few ++ more)) is
set_both (x ∷ few) more (suc at) entry value within is = ap (λ l. x ∷ l) (set_both few more at entry value (omega (arith, within)) is)

set_value : (few more : List (HalfEdge × ℕ)) (half : HalfEdge) (at : ℕ) (entry : HalfEdge × ℕ) (value : ℕ) → IsDistinct same_half (keys_of (few ++ more)) →
    position (λ (each : HalfEdge × ℕ). same_half half each.0) few ≡ Some at → entry ≡ get_or few at entry →
    (other : HalfEdge) → lookup (same_half other) (slice_set few at (entry.0, value) ++ more)
    ≡ cond (same_half half other) (Some value) (lookup (same_half other) (few ++ more))
set_value few more half at entry value distinct found is other =
    let parts = place_key few half at entry found is in
    let m : IndexMap HalfEdge ℕ ℕ = hash_map (few ++ more) 0 0 in
    let here : slice_get few at ≡ Some entry = slice_get-get_or few at entry parts.0 ∙ ap Some (sym is) in
    let there : slice_get (few ++ more) at ≡ Some (half, entry.1) =
    slice_get_front few more at entry here ∙ ap (λ h. Some (h, entry.1)) (sym parts.1) in
    ap (lookup (same_half other)) (set_both few more at entry value parts.0 is)
    ∙ (updates-with_value_at m at value same_half_laws distinct half entry.1 there).0 other
  where
    slice_get_front : (few more : List (HalfEdge × ℕ)) (at : ℕ) (entry : HalfEdge × ℕ) → slice_get few at ≡ Some entry → slice_get (few ++ more) at ≡ Some entry
    slice_get_front [] more at entry is = absurd cc
    slice_get_front (x ∷ few) more zero entry is = is
    slice_get_front (x ∷ few) more (suc at) entry is = slice_get_front few more at entry is

set_distinct : (few more : List (HalfEdge × ℕ)) (at : ℕ) (entry : HalfEdge × ℕ) (value : ℕ) → IsDistinct same_half (keys_of (few ++ more)) →
    at < length few → entry ≡ get_or few at entry → IsDistinct same_half (keys_of (slice_set few at (entry.0, value) ++ more))
set_distinct few more at entry value distinct within is =
    let m : IndexMap HalfEdge ℕ ℕ = hash_map (few ++ more) 0 0 in
    subst (IsDistinct same_half)
    (sym (ap keys_of (set_both few more at entry value within is) ∙ keys-with_value_at m at value)) distinct

-- the same, where the half edge is written with the value
entry_at : (few : List (HalfEdge × ℕ)) (half : HalfEdge) (at : ℕ) →
    position (λ (each : HalfEdge × ℕ). same_half half each.0) few ≡ Some at → at < length few →
    (entry : HalfEdge × ℕ) × (entry ≡ get_or few at entry) × (half ≡ entry.0)
entry_at few half at found within =
    let entry : HalfEdge × ℕ = get_or few at (half, 0) in
    let is : entry ≡ get_or few at entry = get_or_default few at (half, 0) entry within in
    (entry, is, (place_key few half at entry found is).1)

pub set_half : (few more : List (HalfEdge × ℕ)) (half : HalfEdge) (at value : ℕ) →
    IsDistinct same_half (keys_of (few ++ more)) →
    position (λ (each : HalfEdge × ℕ). same_half half each.0) few ≡ Some at → at < length few →
    (other : HalfEdge) → lookup (same_half other) (slice_set few at (half, value) ++ more)
    ≡ cond (same_half half other) (Some value) (lookup (same_half other) (few ++ more))
set_half few more half at value distinct found within other =
    let there = entry_at few half at found within in
    ap (λ (h : HalfEdge). lookup (same_half other) (slice_set few at (h, value) ++ more)) there.2
    ∙ set_value few more half at there.0 value distinct found there.1 other

pub set_half_distinct : (few more : List (HalfEdge × ℕ)) (half : HalfEdge) (at value : ℕ) →
    IsDistinct same_half (keys_of (few ++ more)) →
    position (λ (each : HalfEdge × ℕ). same_half half each.0) few ≡ Some at → at < length few →
    IsDistinct same_half (keys_of (slice_set few at (half, value) ++ more))
set_half_distinct few more half at value distinct found within =
    let there = entry_at few half at found within in
    subst (λ (h : HalfEdge). IsDistinct same_half (keys_of (slice_set few at (h, value) ++ more)))
    (sym there.2)
    (set_distinct few more at there.0 value distinct within there.1)

-- ---- an entry that comes in

pub push_distinct : (few more : List (HalfEdge × ℕ)) (half : HalfEdge) (value : ℕ) → IsDistinct same_half (keys_of (few ++ more)) →
    lookup (same_half half) few ≡ None → lookup (same_half half) more ≡ None →
    IsDistinct same_half (keys_of ((few ++ (half, value) ∷ []) ++ more))
push_distinct few more half value distinct none nowhere =
    subst (λ l. IsDistinct same_half (keys_of l)) (sym (append_assoc few ((half, value) ∷ []) more))
    (distinct_more few more half value distinct (lookup_both (same_half half) few more ∙ ap₂ either none nowhere))

pub insert_distinct : (few : List (HalfEdge × ℕ)) (more : List (HalfEdge × ℕ)) (half : HalfEdge) (value : ℕ) →
    IsDistinct same_half (keys_of (few ++ more)) → lookup (same_half half) few ≡ None →
    IsDistinct same_half (keys_of (few ++ insert_entry same_half more half value))
insert_distinct few more half value distinct none = by (lookup (same_half half) more) refl
  where
    as_map : List (HalfEdge × ℕ) → IndexMap HalfEdge ℕ ℕ
    as_map entries = hash_map entries 0 0

    by : (found : Option ℕ) → lookup (same_half half) more ≡ found → IsDistinct same_half (keys_of (few ++ insert_entry same_half more half value))
    by None is =
        subst (λ l. IsDistinct same_half (keys_of l))
        (append_assoc few more ((half, value) ∷ []) ∙ ap (λ l. few ++ l) (sym (insert_entry-new same_half (as_map more) half value is)))
        (subst (λ l. IsDistinct same_half (keys_of l)) refl
        (distinct_more (few ++ more) [] half value
        (subst (λ l. IsDistinct same_half (keys_of l)) (sym (append-nil (few ++ more))) distinct)
        (ap (lookup (same_half half)) (append-nil (few ++ more)) ∙ lookup_both (same_half half) few more ∙ ap₂ either none is)))
    by (Some old) is =
        subst (IsDistinct same_half)
        (map-append (λ (e : HalfEdge × ℕ). e.0) few more
        ∙ ap (λ l. keys_of few ++ l) (sym (keys-insert_entry-present same_half (as_map more) half value (ap is_some is)))
        ∙ sym (map-append (λ (e : HalfEdge × ℕ). e.0) few (insert_entry same_half more half value)))
        distinct

-- ---- an entry that goes

-- a look-up of the half edge among entries without it
no_entry : (half : HalfEdge) (entries : List (HalfEdge × ℕ)) → AllByRecursion (λ key. same_half half key ≡ false) (keys_of entries) →
    lookup (same_half half) entries ≡ None
no_entry half [] none = refl
no_entry half (entry ∷ entries) none =
    ap (λ b. cond b (Some entry.1) (lookup (same_half half) entries)) none.0 ∙ no_entry half entries none.1

taken : (entries rest : List (HalfEdge × ℕ)) (half : HalfEdge) (value : ℕ) → IsPermutation entries ((half, value) ∷ rest) →
    IsDistinct same_half (keys_of entries) →
    (other : HalfEdge) → lookup (same_half other) rest ≡ cond (same_half half other) None (lookup (same_half other) entries)
taken entries rest half value moved distinct other = by (same_half half other) refl
  where
    all : IsDistinct same_half (keys_of ((half, value) ∷ rest))
    all = distinct_moved entries ((half, value) ∷ rest) moved distinct

    by : (b : Bool) → same_half half other ≡ b → lookup (same_half other) rest ≡ cond b None (lookup (same_half other) entries)
    by true same =
        ap (λ h. lookup (same_half h) rest) (sym (same_half_is half other same))
        ∙ no_entry half rest (IsDistinct-head same_half half (keys_of rest) all)
    by false apart =
        ap (λ b. cond b (Some value) (lookup (same_half other) rest)) (sym (same_half_laws.symm other half ∙ apart))
        ∙ lookup_permutation same_half_laws entries ((half, value) ∷ rest) moved all (same_half other) (same_half_laws.congr other)

-- what a removal from the list moves
few_moved : (few more : List (HalfEdge × ℕ)) (at : ℕ) (entry : HalfEdge × ℕ) → at < length few → entry ≡ get_or few at entry →
    IsPermutation (few ++ more) (entry ∷ (swap_remove few at entry ++ more))
few_moved few more at entry within is =
    IsPermutation-append_left more few (entry ∷ swap_remove few at entry) (IsPermutation-swap_remove few at entry within is)

pub take_few : (few more : List (HalfEdge × ℕ)) (half : HalfEdge) (at : ℕ) (entry : HalfEdge × ℕ) → IsDistinct same_half (keys_of (few ++ more)) →
    position (λ (each : HalfEdge × ℕ). same_half half each.0) few ≡ Some at → entry ≡ get_or few at entry →
    (other : HalfEdge) → lookup (same_half other) (swap_remove few at entry ++ more)
    ≡ cond (same_half half other) None (lookup (same_half other) (few ++ more))
take_few few more half at entry distinct found is =
    let parts = place_key few half at entry found is in
    taken (few ++ more) (swap_remove few at entry ++ more) half entry.1
    (subst (λ h. IsPermutation (few ++ more) ((h, entry.1) ∷ (swap_remove few at entry ++ more))) (sym parts.1) (few_moved few more at entry parts.0 is))
    distinct

pub take_few_distinct : (few more : List (HalfEdge × ℕ)) (at : ℕ) (entry : HalfEdge × ℕ) → IsDistinct same_half (keys_of (few ++ more)) →
    at < length few → entry ≡ get_or few at entry → IsDistinct same_half (keys_of (swap_remove few at entry ++ more))
take_few_distinct few more at entry distinct within is =
    distinct_less (few ++ more) (swap_remove few at entry ++ more) entry (few_moved few more at entry within is) distinct

pub take_more_distinct : (few more : List (HalfEdge × ℕ)) (half : HalfEdge) → IsDistinct same_half (keys_of (few ++ more)) →
    IsDistinct same_half (keys_of (few ++ swap_remove_entry (same_half half) more))
take_more_distinct few more half distinct = by (position (same_half half) (keys_of more)) refl
  where
    by : (found : Option ℕ) → position (same_half half) (keys_of more) ≡ found → IsDistinct same_half (keys_of (few ++ swap_remove_entry (same_half half) more))
    by None is = subst (λ l. IsDistinct same_half (keys_of (few ++ l))) (sym (swap_remove_entry-missing (same_half half) more is)) distinct
    by (Some at) is =
        let entry : HalfEdge × ℕ = get_or more at (half, 0) in
        let within = (Found-position (same_half half) more at is).within in
        let moved = IsPermutation-swap_remove more at entry within (get_or_default more at (half, 0) entry within) in
        subst (λ l. IsDistinct same_half (keys_of (few ++ l))) (sym (swap_remove_entry-found (same_half half) more at entry is))
        (distinct_less (few ++ more) (few ++ swap_remove more at entry) entry
        (IsPermutation-trans (few ++ more) (few ++ (entry ∷ swap_remove more at entry)) (entry ∷ (few ++ swap_remove more at entry))
        (IsPermutation-append_right few more (entry ∷ swap_remove more at entry) moved)
        (IsPermutation-middle few entry (swap_remove more at entry)))
        distinct)

-- ---- room

pub few_room : (few : List (HalfEdge × ℕ)) (capacity spare : ℕ) → length few < 16 → 0 < room_of few capacity spare → length few < capacity
few_room few capacity spare short room =
    omega (arith, subst (λ b. 0 < cond b (capacity - length few) spare) (lt-ltb (length few) 16 short) room)

pub more_room : (few : List (HalfEdge × ℕ)) (capacity spare : ℕ) → 16 ≤ length few → 0 < room_of few capacity spare → 0 < spare
more_room few capacity spare long room = by (nat_lt (length few) 16) refl room
  where
    by : (b : Bool) → nat_lt (length few) 16 ≡ b → 0 < cond b (capacity - length few) spare → 0 < spare
    by true short room = absurd (omega (arith, ltb-true (length few) 16 short, long))
    by false past room = room

-- a row that takes an edge which it hasn't got has room
pub new_room : (few more : List (HalfEdge × ℕ)) (half : HalfEdge) (room : ℕ) →
    (is_some (lookup (same_half half) (few ++ more)) ≡ true) ⊎ (0 < room) →
    lookup (same_half half) few ≡ None → lookup (same_half half) more ≡ None → 0 < room
new_room few more half room (inl there) none nowhere =
    let found = lookup_both (same_half half) few more ∙ ap₂ either none nowhere in
    absurd (true≢false (sym there ∙ ap is_some found))
new_room few more half room (inr some) none nowhere = some

-- where the list is full and hasn't got the edge, the map takes it
pub map_takes : (few more : List (HalfEdge × ℕ)) (half : HalfEdge) (capacity spare : ℕ) →
    (is_some (lookup (same_half half) (few ++ more)) ≡ true)
    ⊎ (0 < room_of few capacity spare) →
    lookup (same_half half) few ≡ None → 16 ≤ length few →
    (is_some (lookup (same_half half) more) ≡ true) ⊎ (0 < spare)
map_takes few more half capacity spare (inl there) none long =
    let found = lookup_both (same_half half) few more
    ∙ ap (λ first. either first (lookup (same_half half) more)) none in
    inl (sym (ap is_some found) ∙ there)
map_takes few more half capacity spare (inr some) none long =
    inr (more_room few capacity spare long some)

-- an insert of an edge that is there isn't refused
there_is_ok : {T E : Type 0} (result : Result T E) (found : Option ℕ) → is_some found ≡ true → OnErr result (found ≡ None) → IsOk result
there_is_ok (Ok x) found there absent = refl
there_is_ok (Err e) found there absent = absurd (true≢false (sym there ∙ ap is_some absent))

-- an insert of an edge that is there, or for which there is room, isn't refused
pub taken_in : {T E : Type 0} (result : Result T E) (found : Option ℕ) (room : ℕ) → (is_some found ≡ true) ⊎ (0 < room) →
    OnErr result (found ≡ None) → (0 < room → IsOk result) → IsOk result
taken_in result found room (inl there) absent succeeds = there_is_ok result found there absent
taken_in result found room (inr some) absent succeeds = succeeds some

pub none_from_test : (found : Option ℕ) → is_some found ≡ false → found ≡ None
none_from_test None test = refl
none_from_test (Some x) test = absurd (true≢false test)
