-- Bounds of blocks, as values come, change and go.
use Rattle.std.proofs.Common.{◌≡◌, ℕ, zero, suc, ◌+◌, ◌-◌, ◌*◌, ◌/◌, ◌<◌, ◌≤◌, max, min, Bool, true, false, not, cond, ◌⊎◌, inl, inr, List, [], ◌∷◌, ◌++◌, take, length, get_or, slice_get, slice_index, slice_set, position, Option, Some, is_some, true≢false, refl, sym, ap, subst, ◌∙◌, if◌then◌else◌, arith}
use Rattle.std.specs.List.{position_or_len, swap_remove}
use Rattle.std.specs.Map.{keys_of, values_of, lookup}
use Rattle.std.specs.Option.{option_map, unwrap_or}
use Rattle.std.proofs.lemmas.Bool.{cases_eq, cases_lt}
use Rattle.std.proofs.lemmas.List.{length-map, length-set, length-take-le, length-append, length_push, get_or-set_same, get_or-set_other, get_or-take, get_or_append_left, get_or-append_right, get_or_past, get_or_push, get_or_read}
use Rattle.std.proofs.lemmas.Option.{slice_get-map, slice_get-get_or, slice_get_within, get_or_from_slice_get, unwrap_or-slice_get}
use Rattle.indexmap.specs.IndexMap.{insert_entry, swap_remove_entry}
use Rattle.indexmap.proofs.MapLemmas.{Found-position, swap_remove_entry-found}
use Rattle.edge_store.specs.declared.edge.HalfEdge.{HalfEdge}
use Rattle.edge_store.specs.Blocks.{AreBounds, RaisesBound}
use Rattle.edge_store.specs.Edges.{AreAtMostWithin, same_half}

-- there are as many values as entries
pub values_len : (entries : List (HalfEdge × ℕ)) → length (values_of entries) ≡ length entries
values_len entries = length-map entries (λ (entry : HalfEdge × ℕ). entry.1)

-- ---- a bound that is raised

-- the bound of a block that is there
pub raised_within : (bounds : List ℕ) (block here value higher : ℕ) → block < length bounds →
    here ≡ get_or bounds block here → higher ≡ max here value →
    RaisesBound bounds (slice_set bounds block higher) block value
raised_within bounds block here value higher within is greater = record {
  len = omega (arith, length-set bounds block higher, within);
  raised = omega (arith, greater, get_or-set_same bounds block higher 0 within);
  kept = λ each. by each (cases_eq each block);
}
  where
    by : (each : ℕ) → (each ≡ block) ⊎ (each ≡ block → ⊥) →
        slice_index bounds each ≤ slice_index (slice_set bounds block higher) each
    by each (inl same) =
        subst (λ n. slice_index bounds n ≤ slice_index (slice_set bounds block higher) n) (sym same)
        (omega (
          arith,
          greater,
          get_or-set_same bounds block higher 0 within,
          get_or_read bounds block here within is 0,
        ))
    by each (inr apart) = omega (arith, get_or-set_other bounds block each higher 0 apart)

-- the bound of a block behind the others
pub raised_new : (bounds : List ℕ) (block value : ℕ) → block ≡ length bounds →
    RaisesBound bounds (bounds ++ value ∷ []) block value
raised_new bounds block value is = record {
  len = omega (arith, length_push bounds value, is);
  raised = omega (arith, get_or_push bounds value 0 block (sym is));
  kept = λ each. by each (cases_lt each (length bounds));
}
  where
    by : (each : ℕ) → (each < length bounds) ⊎ (length bounds ≤ each) →
        slice_index bounds each ≤ slice_index (bounds ++ value ∷ []) each
    by each (inl within) = omega (arith, get_or_append_left bounds (value ∷ []) 0 each within)
    by each (inr past) = omega (arith, get_or_past bounds each 0 past)

-- ---- no values

pub no_bounds : (values bounds : List ℕ) → length values ≡ 0 → length bounds ≡ 0 →
    AreBounds values bounds
no_bounds values bounds none nothing = record {
  enough = omega (arith, none, nothing);
  needed = omega (arith, none, nothing);
  below = λ place within. absurd (omega (arith, within, none));
}

-- ---- the same values

pub same_bounds : (old new : List (HalfEdge × ℕ)) (bounds kept : List ℕ) → new ≡ old →
    kept ≡ bounds → AreBounds (values_of old) bounds → AreBounds (values_of new) kept
same_bounds old new bounds kept same unchanged are =
    subst (λ entries. AreBounds (values_of entries) kept) (sym same)
    (subst (AreBounds (values_of old)) (sym unchanged) are)

-- ---- a value that comes or changes

-- the value stands at the place now, which is one of the list or the next one; all else stays
pub record PutsAt (old new : List ℕ) (place value : ℕ) : Type 0 where
  pub within : place ≤ length old
  pub len : length new ≡ max (length old) (place + 1)
  pub there : slice_index new place ≡ value
  pub others : (other : ℕ) → (other ≡ place → ⊥) → slice_index new other ≡ slice_index old other

-- what an insert puts
pub inserted : (entries : List (HalfEdge × ℕ)) (half : HalfEdge) (value : ℕ) →
    PutsAt (values_of entries) (values_of (insert_entry same_half entries half value))
    (position_or_len (same_half half) (keys_of entries)) value
inserted [] half value = record {
  within = omega arith;
  len = omega arith;
  there = refl;
  others = others;
}
  where
    others : (other : ℕ) → (other ≡ 0 → ⊥) → slice_index (value ∷ []) other ≡ slice_index [] other
    others zero apart = absurd (apart refl)
    others (suc other) apart = refl
inserted (entry ∷ entries) half value =
    by (same_half half entry.0)
    (position_or_len (same_half half) (keys_of entries)) (inserted entries half value)
  where
    here : (values : List ℕ) (before other : ℕ) → (other ≡ 0 → ⊥) →
        slice_index (value ∷ values) other ≡ slice_index (before ∷ values) other
    here values before zero apart = absurd (apart refl)
    here values before (suc other) apart = refl

    later : (old new : List ℕ) (before place : ℕ) → PutsAt old new place value →
        PutsAt (before ∷ old) (before ∷ new) (suc place) value
    later old new before place rest = record {
      within = omega (arith, rest.within);
      len = omega (arith, rest.len);
      there = rest.there;
      others = others;
    }
      where
        others : (other : ℕ) → (other ≡ suc place → ⊥) →
            slice_index (before ∷ new) other ≡ slice_index (before ∷ old) other
        others zero apart = refl
        others (suc other) apart = rest.others other (λ same. apart (ap suc same))

    by : (b : Bool) (place : ℕ) →
        PutsAt (values_of entries) (values_of (insert_entry same_half entries half value)) place
        value →
        PutsAt (entry.1 ∷ values_of entries)
        (values_of (if b then (entry.0, value) ∷ entries
        else entry ∷ insert_entry same_half entries half value))
        (cond (not b) (1 + place) 0) value
    by true place rest = record {
      within = omega arith;
      len = omega arith;
      there = refl;
      others = here (values_of entries) entry.1;
    }
    by false place rest =
        let next : suc place ≡ 1 + place = omega arith in
        subst (λ n. PutsAt (entry.1 ∷ values_of entries)
        (entry.1 ∷ values_of (insert_entry same_half entries half value)) n value) next
        (later (values_of entries) (values_of (insert_entry same_half entries half value)) entry.1
        place rest)

-- an entry that is there stands at a place of the list
found_within : (half : HalfEdge) (entries : List (HalfEdge × ℕ)) →
    is_some (lookup (same_half half) entries) ≡ true →
    position_or_len (same_half half) (keys_of entries) < length entries
found_within half [] there = absurd (true≢false (sym there))
found_within half (entry ∷ entries) there =
    by (same_half half entry.0) (position_or_len (same_half half) (keys_of entries))
    (lookup (same_half half) entries) (found_within half entries) there
  where
    by : (b : Bool) (place : ℕ) (found : Option ℕ) →
        (is_some found ≡ true → place < length entries) →
        is_some (cond b (Some entry.1) found) ≡ true →
        cond (not b) (1 + place) 0 < suc (length entries)
    by true place found rest there = omega arith
    by false place found rest there = omega (arith, rest there)

-- what the table takes, the map takes
pub takes_in_map : (found : Option ℕ) (free room : ℕ) →
    (is_some found ≡ true) ⊎ (0 < min free room) → (is_some found ≡ true) ⊎ (0 < free)
takes_in_map found free room (inl there) = inl there
takes_in_map found free room (inr some) = inr (omega (arith, some))

-- and for a new block there is room among the bounds
pub takes_bound : (entries : List (HalfEdge × ℕ)) (half : HalfEdge) (bounds : List ℕ)
    (free used capacity : ℕ) → AreBounds (values_of entries) bounds →
    (is_some (lookup (same_half half) entries) ≡ true) ⊎ (0 < min free (capacity - used)) →
    length bounds ≤ position_or_len (same_half half) (keys_of entries) / 32 → used < capacity
takes_bound entries half bounds free used capacity are (inl there) past =
    absurd (omega (
      arith,
      found_within half entries there,
      values_len entries,
      are.enough,
      past,
    ))
takes_bound entries half bounds free used capacity are (inr some) past = omega (arith, some)

-- bounds of the values with the one that was put
pub bounds_put : (old new bounds higher : List ℕ) (place value : ℕ) → AreBounds old bounds →
    PutsAt old new place value → RaisesBound bounds higher (place / 32) value →
    AreBounds new higher
bounds_put old new bounds higher place value are puts raises = record {
  enough = omega (arith, are.enough, are.needed, puts.within, puts.len, raises.len);
  needed = omega (arith, are.enough, are.needed, puts.within, puts.len, raises.len);
  below = λ each within. by each within (cases_eq each place);
}
  where
    by : (each : ℕ) → each < length new → (each ≡ place) ⊎ (each ≡ place → ⊥) →
        slice_index new each ≤ slice_index higher (each / 32)
    by each within (inl same) =
        subst (λ n. slice_index new n ≤ slice_index higher (n / 32)) (sym same)
        (omega (arith, puts.there, raises.raised))
    by each within (inr apart) =
        let before : each < length old = omega (arith, within, puts.len, puts.within, apart) in
        omega (
          arith,
          puts.others each apart,
          are.below each before,
          raises.kept (each / 32),
        )

-- ---- a value that goes

-- one value is gone, and at its place the last one may stand; all else stays
pub record TakesFrom (old new : List ℕ) (place : ℕ) : Type 0 where
  pub within : place < length old
  pub len : length new + 1 ≡ length old
  pub others : (other : ℕ) → other < length new → (other ≡ place → ⊥) →
      slice_index new other ≡ slice_index old other

-- the values by the entries
value_of_entry : (entries : List (HalfEdge × ℕ)) (place : ℕ) (default : HalfEdge) →
    slice_index (values_of entries) place ≡ (get_or entries place (default, 0)).1
value_of_entry [] place default = refl
value_of_entry (entry ∷ entries) zero default = refl
value_of_entry (entry ∷ entries) (suc place) default = value_of_entry entries place default

-- what a removal takes
pub removed : (entries : List (HalfEdge × ℕ)) (half : HalfEdge) (place : ℕ) →
    position (same_half half) (keys_of entries) ≡ Some place →
    TakesFrom (values_of entries) (values_of (swap_remove_entry (same_half half) entries)) place
removed entries half place found =
    subst (λ left. TakesFrom (values_of entries) (values_of left) place)
    (sym (swap_remove_entry-found (same_half half) entries place none found))
    (record { within = within_values; len = len; others = others })
  where
    none : HalfEdge × ℕ
    none = (half, 0)

    moved : HalfEdge × ℕ
    moved = get_or entries (length entries - 1) none

    within : place < length entries
    within = (Found-position (same_half half) entries place found).within

    within_values : place < length (values_of entries)
    within_values = omega (arith, within, values_len entries)

    count : length (swap_remove entries place none) ≡ length entries - 1
    count =
        length-take-le (length entries - 1) (slice_set entries place moved)
        (omega (arith, length-set entries place moved))

    len : length (values_of (swap_remove entries place none)) + 1 ≡ length (values_of entries)
    len =
        omega (
          arith,
          within,
          count,
          values_len entries,
          values_len (swap_remove entries place none),
        )

    others : (other : ℕ) → other < length (values_of (swap_remove entries place none)) →
        (other ≡ place → ⊥) →
        slice_index (values_of (swap_remove entries place none)) other
        ≡ slice_index (values_of entries) other
    others other below apart =
        let left : other < length entries - 1 =
        omega (
          arith,
          below,
          count,
          values_len (swap_remove entries place none),
        ) in
        value_of_entry (swap_remove entries place none) other half
        ∙ ap (λ (entry : HalfEdge × ℕ). entry.1)
        (get_or-take (length entries - 1) (slice_set entries place moved) other none left
        ∙ get_or-set_other entries place other moved none apart)
        ∙ sym (value_of_entry entries other half)

-- bounds of the values that are left, where those of blocks without places are cut off
pub bounds_taken : (old new bounds higher : List ℕ) (place blocks : ℕ) → AreBounds old bounds →
    TakesFrom old new place →
    RaisesBound bounds higher (place / 32) (slice_index new place) →
    length new ≤ 32 * blocks → 32 * blocks < length new + 32 →
    AreBounds new (take blocks higher)
bounds_taken old new bounds higher place blocks are takes raises cover tight = record {
  enough = omega (arith, cover, count);
  needed = omega (arith, tight, count);
  below = λ each within. by each within (cases_eq each place);
}
  where
    count : length (take blocks higher) ≡ blocks
    count =
        length-take-le blocks higher
        (omega (arith, are.enough, are.needed, takes.within, takes.len, raises.len, tight))

    kept : (each : ℕ) → each < length new →
        slice_index (take blocks higher) (each / 32) ≡ slice_index higher (each / 32)
    kept each within = get_or-take blocks higher (each / 32) 0 (omega (arith, within, cover))

    by : (each : ℕ) → each < length new → (each ≡ place) ⊎ (each ≡ place → ⊥) →
        slice_index new each ≤ slice_index (take blocks higher) (each / 32)
    by each within (inl same) =
        let here : slice_index new each ≤ slice_index higher (each / 32) =
        subst (λ n. slice_index new n ≤ slice_index higher (n / 32)) (sym same) raises.raised in
        omega (arith, here, kept each within)
    by each within (inr apart) =
        let before : each < length old = omega (arith, within, takes.len) in
        omega (
          arith,
          takes.others each within apart,
          are.below each before,
          raises.kept (each / 32),
          kept each within,
        )

-- ---- values by their places

-- the value of an entry that may be there
pub value_found : (entries : List (HalfEdge × ℕ)) (place : ℕ) (found : Option (HalfEdge × ℕ)) →
    slice_get entries place ≡ found →
    slice_index (values_of entries) place
    ≡ unwrap_or (option_map (λ (entry : HalfEdge × ℕ). entry.1) found) 0
value_found entries place found is =
    sym (unwrap_or-slice_get (values_of entries) place 0)
    ∙ ap (λ (value : Option ℕ). unwrap_or value 0)
    (slice_get-map (λ (entry : HalfEdge × ℕ). entry.1) entries place
    ∙ ap (option_map (λ (entry : HalfEdge × ℕ). entry.1)) is)

-- where the bounds of some blocks aren't above the number, no value of these blocks is
pub at_most_within : (entries : List (HalfEdge × ℕ)) (bounds : List ℕ)
    (number from to block : ℕ) → AreBounds (values_of entries) bounds →
    ((each : ℕ) → from / 32 ≤ each → each < block → slice_index bounds each ≤ number) →
    to ≤ max from (32 * block) → AreAtMostWithin number entries from to
at_most_within entries bounds number from to block are skipped end place entry onward before there =
    let within : place < length (values_of entries) =
    omega (
      arith,
      slice_get_within entries place entry there,
      values_len entries,
    ) in
    let value : slice_index (values_of entries) place ≡ entry.1 =
    value_found entries place (Some entry) there in
    let low : slice_index bounds (place / 32) ≤ number =
    skipped (place / 32) (omega (arith, onward)) (omega (arith, onward, before, end)) in
    omega (arith, value, are.below place within, low)

-- what is true of the map is true of it behind the list
pub at_most_behind : (few more : List (HalfEdge × ℕ)) (number count from to end : ℕ) →
    count ≡ length few → count ≤ from → end ≡ count + to →
    AreAtMostWithin number more (from - count) to → AreAtMostWithin number (few ++ more) from end
at_most_behind few more number count from to end is behind end_is low place entry onward before
    there =
    let inside : place - count < length more =
    omega (
      arith,
      slice_get_within (few ++ more) place entry there,
      length-append few more,
      is,
      behind,
      onward,
    ) in
    let here : slice_get more (place - count) ≡ Some entry =
    slice_get-get_or more (place - count) entry inside
    ∙ ap (λ (each : HalfEdge × ℕ). Some each)
    (sym (get_or-append_right few more count place entry (sym is) (omega (arith, behind, onward)))
    ∙ get_or_from_slice_get (few ++ more) place entry entry there) in
    low (place - count) entry (omega (arith, onward)) (omega (arith, before, end_is, behind, onward))
    here
