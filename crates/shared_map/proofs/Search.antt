-- What a binary search among entries finds.
use Rattle.std.proofs.Common.{◌≡◌, ℕ, suc, ◌+◌, ◌<◌, ◌≤◌, List, [], ◌∷◌, ◌++◌, length, get_or, take, drop, Some, None, Err, Ordering, refl, sym, ap, subst, ◌∙◌, arith}
use Rattle.std.specs.Prelude.{set}
use Rattle.std.specs.BTreeMap.{insert_entry, is_at}
use Rattle.std.specs.Cmp.{IsTotalOrder}
use Rattle.std.specs.List.{insert, remove}
use Rattle.std.specs.List.Sorted.{IsStrictlySortedBy, IsSortedBy, IsPartitionPoint, IsBinarySearchResult}
use Rattle.std.specs.Map.{keys_of, lookup, remove_entry, set_value}
use Rattle.std.specs.Ordering.{is_lt, ordering_reverse}
use Rattle.std.specs.declared.cmp.Ordering.TheVariants.{Less, Equal, Greater}
use Rattle.std.proofs.lemmas.Cmp.{tied_back}
use Rattle.std.proofs.lemmas.List.{take-append-drop, drop_more, get_or-map, get_or-take, get_or-drop, length-map, length-take-le, length-drop, set_split}
use Rattle.std.proofs.lemmas.List.Sorted.{searchable_from_sorted}
use Rattle.std.proofs.lemmas.Map.Keys.{Less-from_sorted}
use Rattle.shared_map.specs.Chunks.{IsAbove, IsBelow}
use Rattle.shared_map.proofs.Entries.{insert_past, insert_before, remove_past, set_past, look_past, nothing_found, misses_above, misses_below}
use Rattle.shared_map.proofs.Order.{above_all}

-- in strict order no entry is below the one before it
none_falls : {K V : Type 0} {cmp : K → K → Ordering} → IsTotalOrder cmp → (entries : List (K × V)) →
    IsStrictlySortedBy cmp (keys_of entries) →
    IsSortedBy (λ (x y : K × V). is_lt (cmp x.0 y.0)) entries
none_falls {K} {V} {cmp} total entries sorted = λ k d low high.
    let many : k + 1 < length (keys_of entries) =
    rw (length-map entries (λ (each : K × V). each.0)) high in
    let less = Less-from_sorted cmp (keys_of entries) k (k + 1) d.0 sorted (omega arith) many in
    let here = get_or-map (λ (each : K × V). each.0) entries k d d.0 (omega (arith, high)) in
    let next = get_or-map (λ (each : K × V). each.0) entries (k + 1) d d.0 high in
    let below : cmp (get_or entries k d).0 (get_or entries (k + 1) d).0 ≡ Less =
    ap (λ (key : K). cmp key (get_or entries (k + 1) d).0) (sym here)
    ∙ (ap (cmp (get_or (keys_of entries) k d.0)) (sym next) ∙ less) in
    ap is_lt (total.antisymm (get_or entries (k + 1) d).0 (get_or entries k d).0
    ∙ ap ordering_reverse below)

pub next : (place : ℕ) → suc place ≡ place + 1
next place = omega arith

-- the entries before a place, the one at it, and those behind it
pub parted : {X : Type 0} (list : List X) (place : ℕ) (d : X) → place < length list →
    list ≡ take place list ++ get_or list place d ∷ drop (place + 1) list
parted {X} list place d within =
    sym (take-append-drop place list)
    ∙ ap (λ (rest : List X). take place list ++ rest) (drop_more list place d within)

tied_not_below : (order : Ordering) → order ≡ Equal → order ≡ Less → ⊥
tied_not_below order equal less = cc

-- ---- a key that is there

-- the key is above the entries before its place
above_place : {K V : Type 0} {cmp : K → K → Ordering} → IsTotalOrder cmp → (entries : List (K × V))
    (place : ℕ) (key : K) (d : K × V) → IsStrictlySortedBy cmp (keys_of entries) →
    place < length entries → cmp (get_or entries place d).0 key ≡ Equal →
    IsAbove cmp key (take place entries)
above_place {K} {V} {cmp} total entries place key d sorted within is =
    above_all total key (take place entries) (get_or entries place d) (drop (place + 1) entries)
    (subst (λ (all : List (K × V)). IsStrictlySortedBy cmp (keys_of all))
    (parted entries place d within) sorted)
    (tied_not_below (cmp key (get_or entries place d).0)
    (tied_back total (get_or entries place d).0 key is))

pub found_value : {K V : Type 0} {cmp : K → K → Ordering} → IsTotalOrder cmp →
    (entries : List (K × V)) (place : ℕ) (key : K) (d : K × V) →
    IsStrictlySortedBy cmp (keys_of entries) → place < length entries →
    cmp (get_or entries place d).0 key ≡ Equal →
    lookup (is_at (cmp key)) entries ≡ Some (get_or entries place d).1
found_value {K} {V} {cmp} total entries place key d sorted within is =
    let here = get_or entries place d in
    let before = take place entries in
    let test = is_at (cmp key) in
    let above = above_place total entries place key d sorted within is in
    let tied : cmp key here.0 ≡ Equal = tied_back total here.0 key is in
    ap (lookup test) (parted entries place d within)
    ∙ (look_past test before (here ∷ drop (place + 1) entries) (misses_above cmp key before above)
    ∙ rw tied refl)

pub set_is_insert : {K V : Type 0} {cmp : K → K → Ordering} → IsTotalOrder cmp →
    (entries : List (K × V)) (place : ℕ) (key : K) (value : V) (d : K × V) →
    IsStrictlySortedBy cmp (keys_of entries) → place < length entries →
    cmp (get_or entries place d).0 key ≡ Equal →
    set entries place ((get_or entries place d).0, value) ≡ insert_entry cmp entries key value
set_is_insert {K} {V} {cmp} total entries place key value d sorted within is =
    let here = get_or entries place d in
    let before = take place entries in
    let behind = drop (place + 1) entries in
    let above = above_place total entries place key d sorted within is in
    let tied : cmp key here.0 ≡ Equal = tied_back total here.0 key is in
    let put : insert_entry cmp (here ∷ behind) key value ≡ (here.0, value) ∷ behind = rw tied refl in
    set_split entries place (here.0, value) within
    ∙ (ap (λ (n : ℕ). before ++ (here.0, value) ∷ drop n entries) (next place)
    ∙ sym (ap (λ (all : List (K × V)). insert_entry cmp all key value) (parted entries place d within)
    ∙ (insert_past cmp key value before (here ∷ behind) above
    ∙ ap (λ (all : List (K × V)). before ++ all) put)))

pub remove_is : {K V : Type 0} {cmp : K → K → Ordering} → IsTotalOrder cmp →
    (entries : List (K × V)) (place : ℕ) (key : K) (d : K × V) →
    IsStrictlySortedBy cmp (keys_of entries) → place < length entries →
    cmp (get_or entries place d).0 key ≡ Equal →
    remove entries place ≡ remove_entry (is_at (cmp key)) entries
remove_is {K} {V} {cmp} total entries place key d sorted within is =
    let here = get_or entries place d in
    let before = take place entries in
    let behind = drop (place + 1) entries in
    let test = is_at (cmp key) in
    let above = above_place total entries place key d sorted within is in
    let tied : cmp key here.0 ≡ Equal = tied_back total here.0 key is in
    let gone : remove_entry test (here ∷ behind) ≡ behind = rw tied refl in
    ap (λ (n : ℕ). before ++ drop n entries) (next place)
    ∙ sym (ap (remove_entry test) (parted entries place d within)
    ∙ (remove_past test before (here ∷ behind) (misses_above cmp key before above)
    ∙ ap (λ (all : List (K × V)). before ++ all) gone))

-- ---- a key that isn't there

-- the gap of a key: it is above the entries before, and below those behind
record IsGap {K V : Type 0} (cmp : K → K → Ordering) (key : K) (entries : List (K × V)) (gap : ℕ) : Type 0 where
  above : IsAbove cmp key (take gap entries)
  below : IsBelow cmp key (drop gap entries)

gap_of : {K V : Type 0} {cmp : K → K → Ordering} → IsTotalOrder cmp → (entries : List (K × V))
    (gap : ℕ) (key : K) → IsStrictlySortedBy cmp (keys_of entries) → gap ≤ length entries →
    IsBinarySearchResult (λ (entry : K × V). cmp entry.0 key) entries (Err gap) →
    IsGap cmp key entries gap
gap_of {K} {V} {cmp} total entries gap key sorted within found =
    let point : IsPartitionPoint (λ (entry : K × V). cmp entry.0 key ≡ Less) (λ (entry : K × V). cmp entry.0 key ≡ Greater) entries gap =
    found (searchable_from_sorted total (λ (entry : K × V). entry.0) entries key (none_falls total entries sorted)) in
    let short = length-take-le gap entries within in
    let long = length-drop gap entries in
    record {
      above = λ k d few.
          let low : k < gap = omega (arith, few, short) in
          total.antisymm key (get_or (take gap entries) k d).0
          ∙ ap ordering_reverse (subst (λ (entry : K × V). cmp entry.0 key ≡ Less)
          (sym (get_or-take gap entries k d low)) (point.0 k d (omega arith) low));
      below = λ k d few.
          total.antisymm key (get_or (drop gap entries) k d).0
          ∙ ap ordering_reverse (subst (λ (entry : K × V). cmp entry.0 key ≡ Greater)
          (sym (get_or-drop gap entries k d))
          (point.1 (gap + k) d (omega arith) (omega (arith, few, long))));
    }

pub no_value : {K V : Type 0} {cmp : K → K → Ordering} → IsTotalOrder cmp → (entries : List (K × V))
    (gap : ℕ) (key : K) → IsStrictlySortedBy cmp (keys_of entries) → gap ≤ length entries →
    IsBinarySearchResult (λ (entry : K × V). cmp entry.0 key) entries (Err gap) →
    lookup (is_at (cmp key)) entries ≡ None
no_value {K} {V} {cmp} total entries gap key sorted within found =
    let test = is_at (cmp key) in
    let here = gap_of total entries gap key sorted within found in
    ap (lookup test) (sym (take-append-drop gap entries))
    ∙ (look_past test (take gap entries) (drop gap entries) (misses_above cmp key (take gap entries) here.above)
    ∙ nothing_found test (drop gap entries) (misses_below cmp key (drop gap entries) here.below))

pub gap_is_insert : {K V : Type 0} {cmp : K → K → Ordering} → IsTotalOrder cmp →
    (entries : List (K × V)) (gap : ℕ) (key : K) (value : V) →
    IsStrictlySortedBy cmp (keys_of entries) → gap ≤ length entries →
    IsBinarySearchResult (λ (entry : K × V). cmp entry.0 key) entries (Err gap) →
    insert entries gap (key, value) ≡ insert_entry cmp entries key value
gap_is_insert {K} {V} {cmp} total entries gap key value sorted within found =
    let here = gap_of total entries gap key sorted within found in
    let before = take gap entries in
    let behind = drop gap entries in
    sym (ap (λ (all : List (K × V)). insert_entry cmp all key value) (sym (take-append-drop gap entries))
    ∙ (insert_past cmp key value before behind here.above
    ∙ ap (λ (all : List (K × V)). before ++ all) (insert_before cmp key value [] behind here.below)))

-- ---- the same, as a chunk is seen

pub value_seen : {K V : Type 0} {cmp : K → K → Ordering} → IsTotalOrder cmp →
    (inside entries : List (K × V)) (place : ℕ) (key : K) (here : K × V) → inside ≡ entries →
    here ≡ get_or inside place here → IsStrictlySortedBy cmp (keys_of entries) →
    place < length entries → cmp (get_or entries place here).0 key ≡ Equal →
    Some here.1 ≡ lookup (is_at (cmp key)) entries
value_seen {K} {V} {cmp} total inside entries place key here view found sorted within is =
    ap (λ (entry : K × V). Some entry.1) (found ∙ ap (λ (all : List (K × V)). get_or all place here) view)
    ∙ sym (found_value total entries place key here sorted within is)

pub set_seen : {K V : Type 0} {cmp : K → K → Ordering} → IsTotalOrder cmp →
    (inside entries : List (K × V)) (place : ℕ) (key : K) (value now : V) (here : K × V) →
    inside ≡ entries → here ≡ get_or inside place here → now ≡ value →
    IsStrictlySortedBy cmp (keys_of entries) → place < length entries →
    cmp (get_or entries place here).0 key ≡ Equal →
    set inside place (here.0, now) ≡ insert_entry cmp entries key value
set_seen {K} {V} {cmp} total inside entries place key value now here view found now_is sorted within is =
    ap (λ (all : List (K × V)). set all place (here.0, now)) view
    ∙ (ap (λ (each : V). set entries place (here.0, each)) now_is
    ∙ (ap (λ (entry : K × V). set entries place (entry.0, value))
    (found ∙ ap (λ (all : List (K × V)). get_or all place here) view)
    ∙ set_is_insert total entries place key value here sorted within is))

pub written_seen : {K V : Type 0} {cmp : K → K → Ordering} → IsTotalOrder cmp →
    (inside entries : List (K × V)) (place : ℕ) (key : K) (value : V) (here : K × V) →
    inside ≡ entries → here ≡ get_or inside place here →
    IsStrictlySortedBy cmp (keys_of entries) → place < length entries →
    cmp (get_or entries place here).0 key ≡ Equal →
    set inside place (here.0, value) ≡ set_value (is_at (cmp key)) entries value
written_seen {K} {V} {cmp} total inside entries place key value here view found sorted within is =
    let stored = get_or entries place here in
    let before = take place entries in
    let behind = drop (place + 1) entries in
    let test = is_at (cmp key) in
    let above = above_place total entries place key here sorted within is in
    let tied : cmp key stored.0 ≡ Equal = tied_back total stored.0 key is in
    let put : set_value test (stored ∷ behind) value ≡ (stored.0, value) ∷ behind = rw tied refl in
    ap (λ (all : List (K × V)). set all place (here.0, value)) view
    ∙ (ap (λ (entry : K × V). set entries place (entry.0, value))
    (found ∙ ap (λ (all : List (K × V)). get_or all place here) view)
    ∙ (set_split entries place (stored.0, value) within
    ∙ (ap (λ (n : ℕ). before ++ (stored.0, value) ∷ drop n entries) (next place)
    ∙ sym (ap (λ (all : List (K × V)). set_value test all value) (parted entries place here within)
    ∙ (set_past test before (stored ∷ behind) value (misses_above cmp key before above)
    ∙ ap (λ (all : List (K × V)). before ++ all) put)))))
