-- The entries of chunks, and of one among them.
use Rattle.std.proofs.Common.{◌⊎◌, ⊎_elim, ◌≡◌, ℕ, ◌+◌, ◌<◌, ◌≤◌, Bool, true, false, cond, List, [], ◌∷◌, ◌++◌, length, get_or, take, drop, Option, Some, None, Result, Ordering, refl, sym, ap, subst, ◌∙◌, arith, Global}
use Rattle.std.specs.Prelude.{IfOk, set, slice_get}
use Rattle.std.specs.BTreeMap.{insert_entry, is_at}
use Rattle.std.specs.Cmp.{IsTotalOrder}
use Rattle.std.specs.List.{insert, remove}
use Rattle.std.specs.List.Sorted.{IsStrictlySortedBy}
use Rattle.std.specs.Map.{keys_of, lookup, remove_entry, set_value}
use Rattle.std.specs.declared.cmp.Ordering.TheVariants.{Less}
use Rattle.std.specs.declared.sync.Arc.{Arc}
use Rattle.std.proofs.lemmas.List.{append_assoc, drop_more, get_or_default, take_more, set_at, set_split, length-take-le}
use Rattle.std.proofs.lemmas.Map.{keys-set_value}
use Rattle.std.proofs.lemmas.List.Concat.{flat_map-append}
use Rattle.shared_map.specs.Chunks.{entries_of, IsAbove, IsBelow, IsChunkOf}
use Rattle.shared_map.proofs.Entries.{insert_between, set_between, remove_between, look_between}
use Rattle.shared_map.proofs.Order.{above_all, below_all, keys_left, keys_right}
use Rattle.shared_map.proofs.Search.{next, parted}

-- a chunk behind its shared handle
abbrev pub Held : Type 0 → Type 0 → Type 0
Held K V = Arc (List (K × V)) Global

pub entries_append : {K V : Type 0} (chunks others : List (Held K V)) →
    entries_of (chunks ++ others) ≡ entries_of chunks ++ entries_of others
entries_append {K} {V} chunks others = flat_map-append (λ (chunk : Held K V). chunk.value) chunks others

-- the entries before a place, those of the chunk at it, and those behind it
pub around : {K V : Type 0} (chunks : List (Held K V)) (place : ℕ) (d : Held K V) → place < length chunks →
    entries_of chunks ≡ entries_of (take place chunks)
    ++ ((get_or chunks place d).value ++ entries_of (drop (place + 1) chunks))
around {K} {V} chunks place d within =
    ap entries_of (parted chunks place d within)
    ∙ entries_append (take place chunks) (get_or chunks place d ∷ drop (place + 1) chunks)

-- another chunk at a place
pub around_set : {K V : Type 0} (chunks : List (Held K V)) (place : ℕ) (chunk : Held K V) → place < length chunks →
    entries_of (set chunks place chunk) ≡ entries_of (take place chunks)
    ++ (chunk.value ++ entries_of (drop (place + 1) chunks))
around_set {K} {V} chunks place chunk within =
    ap entries_of (set_split chunks place chunk within
    ∙ ap (λ (n : ℕ). take place chunks ++ chunk ∷ drop n chunks) (next place))
    ∙ entries_append (take place chunks) (chunk ∷ drop (place + 1) chunks)

-- a chunk taken out
pub around_remove : {K V : Type 0} (chunks : List (Held K V)) (place : ℕ) →
    entries_of (remove chunks place) ≡ entries_of (take place chunks) ++ entries_of (drop (place + 1) chunks)
around_remove {K} {V} chunks place =
    ap (λ (n : ℕ). entries_of (take place chunks ++ drop n chunks)) (next place)
    ∙ entries_append (take place chunks) (drop (place + 1) chunks)

-- ---- which chunk a key stands in

chunk_below : {K V : Type 0} {cmp : K → K → Ordering} → IsTotalOrder cmp → (key first : K)
    (entries others : List (K × V)) → slice_get (keys_of entries) 0 ≡ Some first →
    IsStrictlySortedBy cmp (keys_of (entries ++ others)) → cmp key first ≡ Less →
    IsBelow cmp key (entries ++ others)
chunk_below total key first [] others is sorted less = cc
chunk_below {K} {V} {cmp} total key first (entry ∷ rest) others is sorted less =
    let same : entry.0 ≡ first = cc in
    below_all total key entry (rest ++ others) sorted (ap (cmp key) same ∙ less)

-- where the key is below the first of a chunk, it is below all from there on
pub below_chunk : {K V : Type 0} {cmp : K → K → Ordering} → IsTotalOrder cmp → (key first : K)
    (chunks : List (Held K V)) (place : ℕ) (d : Held K V) → place < length chunks →
    slice_get (keys_of (get_or chunks place d).value) 0 ≡ Some first →
    IsStrictlySortedBy cmp (keys_of (entries_of chunks)) → cmp key first ≡ Less →
    IsBelow cmp key (entries_of (drop place chunks))
below_chunk {K} {V} {cmp} total key first chunks place d within is sorted less =
    let here = (get_or chunks place d).value in
    let behind = entries_of (drop (place + 1) chunks) in
    let rest : IsStrictlySortedBy cmp (keys_of (here ++ behind)) =
    keys_right cmp (entries_of (take place chunks)) (here ++ behind)
    (subst (λ (all : List (K × V)). IsStrictlySortedBy cmp (keys_of all)) (around chunks place d within) sorted) in
    subst (IsBelow cmp key) (sym (ap entries_of (drop_more chunks place d within)))
    (chunk_below total key first here behind is rest less)

chunk_above : {K V : Type 0} {cmp : K → K → Ordering} → IsTotalOrder cmp → (key first : K)
    (before entries others : List (K × V)) → slice_get (keys_of entries) 0 ≡ Some first →
    IsStrictlySortedBy cmp (keys_of (before ++ (entries ++ others))) → (cmp key first ≡ Less → ⊥) →
    IsAbove cmp key before
chunk_above total key first before [] others is sorted high = cc
chunk_above {K} {V} {cmp} total key first before (entry ∷ rest) others is sorted high =
    let same : entry.0 ≡ first = cc in
    above_all total key before entry (rest ++ others) sorted (λ less. high (ap (cmp key) (sym same) ∙ less))

-- where it isn't, it is above all before that chunk
pub above_chunk : {K V : Type 0} {cmp : K → K → Ordering} → IsTotalOrder cmp → (key first : K)
    (chunks : List (Held K V)) (place : ℕ) (d : Held K V) → place < length chunks →
    slice_get (keys_of (get_or chunks place d).value) 0 ≡ Some first →
    IsStrictlySortedBy cmp (keys_of (entries_of chunks)) → (cmp key first ≡ Less → ⊥) →
    IsAbove cmp key (entries_of (take place chunks))
above_chunk {K} {V} {cmp} total key first chunks place d within is sorted high =
    chunk_above total key first (entries_of (take place chunks)) (get_or chunks place d).value
    (entries_of (drop (place + 1) chunks)) is
    (subst (λ (all : List (K × V)). IsStrictlySortedBy cmp (keys_of all)) (around chunks place d within) sorted)
    high

-- ---- edits of the chunk in which a key stands

-- the entries of one chunk are in order
pub chunk_sorted : {K V : Type 0} (cmp : K → K → Ordering) (chunks : List (Held K V)) (place : ℕ) (d : Held K V) →
    place < length chunks → IsStrictlySortedBy cmp (keys_of (entries_of chunks)) →
    IsStrictlySortedBy cmp (keys_of (get_or chunks place d).value)
chunk_sorted {K} {V} cmp chunks place d within sorted =
    let here = (get_or chunks place d).value in
    let behind = entries_of (drop (place + 1) chunks) in
    keys_left cmp here behind (keys_right cmp (entries_of (take place chunks)) (here ++ behind)
    (subst (λ (all : List (K × V)). IsStrictlySortedBy cmp (keys_of all)) (around chunks place d within) sorted))

pub chunk_looked : {K V : Type 0} (cmp : K → K → Ordering) (key : K) (chunks : List (Held K V)) (place : ℕ) (d : Held K V) →
    place < length chunks → IsChunkOf cmp key chunks place →
    lookup (is_at (cmp key)) (entries_of chunks) ≡ lookup (is_at (cmp key)) (get_or chunks place d).value
chunk_looked cmp key chunks place d within of =
    ap (lookup (is_at (cmp key))) (around chunks place d within)
    ∙ look_between cmp key (entries_of (take place chunks)) (get_or chunks place d).value
    (entries_of (drop (place + 1) chunks)) of.0 of.1

pub chunk_inserted : {K V : Type 0} (cmp : K → K → Ordering) (key : K) (value : V) (chunks : List (Held K V)) (place : ℕ)
    (d now : Held K V) → place < length chunks → IsChunkOf cmp key chunks place →
    now.value ≡ insert_entry cmp (get_or chunks place d).value key value →
    entries_of (set chunks place now) ≡ insert_entry cmp (entries_of chunks) key value
chunk_inserted {K} {V} cmp key value chunks place d now within of is =
    let before = entries_of (take place chunks) in
    let here = (get_or chunks place d).value in
    let behind = entries_of (drop (place + 1) chunks) in
    around_set chunks place now within
    ∙ (ap (λ (all : List (K × V)). before ++ (all ++ behind)) is
    ∙ sym (ap (λ (all : List (K × V)). insert_entry cmp all key value) (around chunks place d within)
    ∙ insert_between cmp key value before here behind of.0 of.1))

pub chunk_removed : {K V : Type 0} (cmp : K → K → Ordering) (key : K) (chunks : List (Held K V)) (place : ℕ)
    (d now : Held K V) → place < length chunks → IsChunkOf cmp key chunks place →
    now.value ≡ remove_entry (is_at (cmp key)) (get_or chunks place d).value →
    entries_of (set chunks place now) ≡ remove_entry (is_at (cmp key)) (entries_of chunks)
chunk_removed {K} {V} cmp key chunks place d now within of is =
    let before = entries_of (take place chunks) in
    let here = (get_or chunks place d).value in
    let behind = entries_of (drop (place + 1) chunks) in
    around_set chunks place now within
    ∙ (ap (λ (all : List (K × V)). before ++ (all ++ behind)) is
    ∙ sym (ap (remove_entry (is_at (cmp key))) (around chunks place d within)
    ∙ remove_between cmp key before here behind of.0 of.1))

-- a chunk with other entries of its own kind
pub chunk_kept : {K V : Type 0} (chunks : List (Held K V)) (place : ℕ) (d now : Held K V) → place < length chunks →
    now.value ≡ (get_or chunks place d).value → entries_of (set chunks place now) ≡ entries_of chunks
chunk_kept {K} {V} chunks place d now within is =
    let before = entries_of (take place chunks) in
    let behind = entries_of (drop (place + 1) chunks) in
    around_set chunks place now within
    ∙ (ap (λ (all : List (K × V)). before ++ (all ++ behind)) is ∙ sym (around chunks place d within))

-- the first key of the chunk at a place
pub first_at : {K V : Type 0} (chunks : List (Held K V)) (place : ℕ) (chunk : Held K V)
    (entries : List (K × V)) (first : K) → chunk ≡ get_or chunks place chunk → entries ≡ chunk.value →
    slice_get (keys_of entries) 0 ≡ Some first →
    slice_get (keys_of (get_or chunks place chunk).value) 0 ≡ Some first
first_at {K} {V} chunks place chunk entries first found seen is =
    ap (λ (all : List (K × V)). slice_get (keys_of all) 0)
    (sym (seen ∙ ap (λ (each : Held K V). each.value) found)) ∙ is

-- two halves in the place of a chunk
pub halved : {K V : Type 0} (chunks : List (Held K V)) (place : ℕ) (d left right : Held K V) →
    place < length chunks → left.value ++ right.value ≡ (get_or chunks place d).value →
    entries_of (set (insert chunks (place + 1) right) place left) ≡ entries_of chunks
halved {K} {V} chunks place d left right within is =
    let before = take place chunks in
    let behind = drop (place + 1) chunks in
    let opened : insert chunks (place + 1) right ≡ before ++ (get_or chunks place d ∷ (right ∷ behind)) =
    ap (λ (firsts : List (Held K V)). firsts ++ (right ∷ behind)) (take_more chunks place d within)
    ∙ append_assoc before (get_or chunks place d ∷ []) (right ∷ behind) in
    let put : set (insert chunks (place + 1) right) place left ≡ before ++ (left ∷ (right ∷ behind)) =
    ap (λ (all : List (Held K V)). set all place left) opened
    ∙ set_at before (get_or chunks place d) (right ∷ behind) left place (length-take-le place chunks (omega (arith, within))) in
    ap entries_of put
    ∙ (entries_append before (left ∷ (right ∷ behind))
    ∙ (ap (λ (all : List (K × V)). entries_of before ++ all)
    (sym (append_assoc left.value right.value (entries_of behind))
    ∙ ap (λ (all : List (K × V)). all ++ entries_of behind) is)
    ∙ sym (around chunks place d within)))

-- ---- as the calls see the chunk

-- what two calls find at one place is the same
pub same_place : {X : Type 0} (list : List X) (place : ℕ) (first second : X) → place < length list →
    first ≡ get_or list place first → second ≡ get_or list place second → first ≡ second
same_place list place first second within is also =
    is ∙ (get_or_default list place first second within ∙ sym also)

-- the chunk is in order
pub held_sorted : {K V : Type 0} (cmp : K → K → Ordering) (chunks : List (Held K V)) (place : ℕ)
    (here : Held K V) → place < length chunks → here ≡ get_or chunks place here →
    IsStrictlySortedBy cmp (keys_of (entries_of chunks)) → IsStrictlySortedBy cmp (keys_of here.value)
held_sorted {K} {V} cmp chunks place here within found sorted =
    subst (λ (chunk : Held K V). IsStrictlySortedBy cmp (keys_of chunk.value)) (sym found)
    (chunk_sorted cmp chunks place here within sorted)

pub held_looked : {K V : Type 0} (cmp : K → K → Ordering) (key : K) (chunks : List (Held K V)) (place : ℕ)
    (here : Held K V) → place < length chunks → here ≡ get_or chunks place here → IsChunkOf cmp key chunks place →
    lookup (is_at (cmp key)) here.value ≡ lookup (is_at (cmp key)) (entries_of chunks)
held_looked {K} {V} cmp key chunks place here within found of =
    ap (λ (chunk : Held K V). lookup (is_at (cmp key)) chunk.value) found
    ∙ sym (chunk_looked cmp key chunks place here within of)

-- an answer that is what the chunk has of a key is what all entries have
pub held_looked_if : {K V E : Type 0} (cmp : K → K → Ordering) (key : K) (chunks : List (Held K V)) (place : ℕ)
    (here : Held K V) → place < length chunks → here ≡ get_or chunks place here → IsChunkOf cmp key chunks place →
    (result : Result (Option V) E) → IfOk result (λ old. old ≡ lookup (is_at (cmp key)) here.value) →
    IfOk result (λ old. old ≡ lookup (is_at (cmp key)) (entries_of chunks))
held_looked_if {K} {V} {E} cmp key chunks place here within found of result looked =
    subst (λ (value : Option V). IfOk result (λ old. old ≡ value))
    (held_looked cmp key chunks place here within found of) looked

pub held_inserted : {K V : Type 0} (cmp : K → K → Ordering) (key : K) (value : V) (chunks : List (Held K V)) (place : ℕ)
    (here now : Held K V) → place < length chunks → here ≡ get_or chunks place here → IsChunkOf cmp key chunks place →
    now.value ≡ insert_entry cmp here.value key value →
    entries_of (set chunks place now) ≡ insert_entry cmp (entries_of chunks) key value
held_inserted {K} {V} cmp key value chunks place here now within found of is =
    chunk_inserted cmp key value chunks place here now within of
    (is ∙ ap (λ (chunk : Held K V). insert_entry cmp chunk.value key value) found)

pub held_removed : {K V : Type 0} (cmp : K → K → Ordering) (key : K) (chunks : List (Held K V)) (place : ℕ)
    (here now : Held K V) → place < length chunks → here ≡ get_or chunks place here → IsChunkOf cmp key chunks place →
    now.value ≡ remove_entry (is_at (cmp key)) here.value →
    entries_of (set chunks place now) ≡ remove_entry (is_at (cmp key)) (entries_of chunks)
held_removed {K} {V} cmp key chunks place here now within found of is =
    chunk_removed cmp key chunks place here now within of
    (is ∙ ap (λ (chunk : Held K V). remove_entry (is_at (cmp key)) chunk.value) found)

pub held_kept : {K V : Type 0} (chunks : List (Held K V)) (place : ℕ) (here now : Held K V) →
    place < length chunks → here ≡ get_or chunks place here → now.value ≡ here.value →
    entries_of (set chunks place now) ≡ entries_of chunks
held_kept {K} {V} chunks place here now within found is =
    chunk_kept chunks place here now within (is ∙ ap (λ (chunk : Held K V). chunk.value) found)

-- a key that has no value has no entry to take out
pub missing : {K V : Type 0} (test : K → Bool) (entries : List (K × V)) → lookup test entries ≡ None →
    remove_entry test entries ≡ entries
missing test [] none = refl
missing test (entry ∷ rest) none = missing_step test (test entry.0) entry rest none (missing test rest)
  where
    missing_step : {K V : Type 0} (test : K → Bool) (passes : Bool) (entry : K × V) (rest : List (K × V)) →
        cond passes (Some entry.1) (lookup test rest) ≡ None →
        (lookup test rest ≡ None → remove_entry test rest ≡ rest) →
        cond passes rest (entry ∷ remove_entry test rest) ≡ entry ∷ rest
    missing_step test true entry rest none further = cc
    missing_step {K} {V} test false entry rest none further =
        ap (λ (others : List (K × V)). entry ∷ others) (further none)

pub held_missing : {K V : Type 0} (cmp : K → K → Ordering) (key : K) (chunks : List (Held K V)) (place : ℕ)
    (here : Held K V) → place < length chunks → here ≡ get_or chunks place here → IsChunkOf cmp key chunks place →
    lookup (is_at (cmp key)) here.value ≡ None →
    entries_of chunks ≡ remove_entry (is_at (cmp key)) (entries_of chunks)
held_missing cmp key chunks place here within found of none =
    sym (missing (is_at (cmp key)) (entries_of chunks)
    (sym (held_looked cmp key chunks place here within found of) ∙ none))

-- the one entry of a chunk is taken out
one_gone : {K V : Type 0} (test : K → Bool) (entries : List (K × V)) → length entries ≤ 1 →
    (lookup test entries ≡ None → ⊥) → remove_entry test entries ≡ []
one_gone test [] few there = refl
one_gone test (entry ∷ []) few there = one_step test (test entry.0) entry there
  where
    one_step : {K V : Type 0} (test : K → Bool) (passes : Bool) (entry : K × V) →
        (cond passes (Some entry.1) None ≡ None → ⊥) → cond passes [] (entry ∷ []) ≡ []
    one_step test true entry there = refl
    one_step test false entry there = absurd (there refl)
one_gone test (entry ∷ (other ∷ rest)) few there = absurd (omega (arith, few))

pub held_emptied : {K V : Type 0} (cmp : K → K → Ordering) (key : K) (chunks : List (Held K V)) (place : ℕ)
    (here : Held K V) → place < length chunks → here ≡ get_or chunks place here → IsChunkOf cmp key chunks place →
    length here.value ≤ 1 → (lookup (is_at (cmp key)) here.value ≡ None → ⊥) →
    entries_of (remove chunks place) ≡ remove_entry (is_at (cmp key)) (entries_of chunks)
held_emptied {K} {V} cmp key chunks place here within found of few there =
    let test = is_at (cmp key) in
    let before = entries_of (take place chunks) in
    let behind = entries_of (drop (place + 1) chunks) in
    let gone : remove_entry test (get_or chunks place here).value ≡ [] =
    ap (λ (chunk : Held K V). remove_entry test chunk.value) (sym found) ∙ one_gone test here.value few there in
    around_remove chunks place
    ∙ sym (ap (remove_entry test) (around chunks place here within)
    ∙ (remove_between cmp key before (get_or chunks place here).value behind of.0 of.1
    ∙ ap (λ (all : List (K × V)). before ++ (all ++ behind)) gone))

pub held_set : {K V : Type 0} (cmp : K → K → Ordering) (key : K) (value : V)
    (chunks : List (Held K V)) (place : ℕ) (here now : Held K V) → place < length chunks →
    here ≡ get_or chunks place here → IsChunkOf cmp key chunks place →
    now.value ≡ set_value (is_at (cmp key)) here.value value →
    entries_of (set chunks place now) ≡ set_value (is_at (cmp key)) (entries_of chunks) value
held_set {K} {V} cmp key value chunks place here now within found of is =
    let before = entries_of (take place chunks) in
    let stored = (get_or chunks place here).value in
    let behind = entries_of (drop (place + 1) chunks) in
    let test = is_at (cmp key) in
    around_set chunks place now within
    ∙ (ap (λ (all : List (K × V)). before ++ (all ++ behind))
    (is ∙ ap (λ (chunk : Held K V). set_value test chunk.value value) found)
    ∙ sym (ap (λ (all : List (K × V)). set_value test all value) (around chunks place here within)
    ∙ set_between cmp key value before stored behind of.0 of.1))

-- either way of the same
pub either : {P : Type 0} → P ⊎ P → P
either both = ⊎_elim (λ one. one) (λ other. other) both

-- the order where a value is written
pub set_in_order : {K V : Type 0} (cmp : K → K → Ordering) (test : K → Bool) (old new : List (K × V))
    (value : V) → IsStrictlySortedBy cmp (keys_of old) → new ≡ set_value test old value →
    IsStrictlySortedBy cmp (keys_of new)
set_in_order {K} {V} cmp test old new value sorted is =
    subst (IsStrictlySortedBy cmp) (sym (ap keys_of is ∙ keys-set_value test old value)) sorted
