-- The entries of a row: a list and a map, one after the other.
use Rattle.std.proofs.Common.{◌≡◌, ℕ, Bool, true, false, cond, List, [], ◌∷◌, ◌++◌, Option, None, Some, refl, sym, ap, ◌∙◌, IsPermutation}
use Rattle.std.specs.List.{IsDistinct, AllByRecursion}
use Rattle.std.specs.Map.{keys_of, lookup}
use Rattle.std.proofs.lemmas.List.Sorted.{IsPermutation-map, IsPermutation-sym, IsPermutation-middle}
use Rattle.std.proofs.lemmas.Map.Keys.{IsDistinct-IsPermutation, IsDistinct-cons, IsDistinct-tail}
use Rattle.edge_store.specs.declared.edge.HalfEdge.{HalfEdge}
use Rattle.edge_store.specs.Edges.{same_half}
use Rattle.edge_store.proofs.Halves.{same_half_is, same_half_laws}

-- the first of two values that is there
abbrev pub either : Option ℕ → Option ℕ → Option ℕ
either None other = other
either (Some value) other = Some value

-- a look-up goes through the list and then through the map
pub lookup_both : (test : HalfEdge → Bool) (few more : List (HalfEdge × ℕ)) → lookup test (few ++ more) ≡ either (lookup test few) (lookup test more)
lookup_both test [] more = refl
lookup_both test (entry ∷ few) more = by (test entry.0) (lookup_both test few more)
  where
    by : (b : Bool) → lookup test (few ++ more) ≡ either (lookup test few) (lookup test more) →
        cond b (Some entry.1) (lookup test (few ++ more)) ≡ either (cond b (Some entry.1) (lookup test few)) (lookup test more)
    by true rest = refl
    by false rest = rest

-- where the list has none, a change of the map changes the whole
pub more_changed : (few more after : List (HalfEdge × ℕ)) (half : HalfEdge) (value : Option ℕ) → lookup (same_half half) few ≡ None →
    ((other : HalfEdge) → lookup (same_half other) after ≡ cond (same_half half other) value (lookup (same_half other) more)) →
    (other : HalfEdge) → lookup (same_half other) (few ++ after) ≡ cond (same_half half other) value (lookup (same_half other) (few ++ more))
more_changed few more after half value none changes other =
    lookup_both (same_half other) few after
    ∙ ap (either (lookup (same_half other) few)) (changes other)
    ∙ by (same_half half other) refl
    ∙ ap (cond (same_half half other) value) (sym (lookup_both (same_half other) few more))
  where
    by : (b : Bool) → same_half half other ≡ b →
        either (lookup (same_half other) few) (cond b value (lookup (same_half other) more))
        ≡ cond b value (either (lookup (same_half other) few) (lookup (same_half other) more))
    by true same =
        ap (λ found. either found value) (ap (λ h. lookup (same_half h) few) (sym (same_half_is half other same)) ∙ none)
    by false apart = refl

-- a change of the list where the map has none
pub few_changed : (few after more : List (HalfEdge × ℕ)) (half : HalfEdge) (value : Option ℕ) →
    (value ≡ None → lookup (same_half half) more ≡ None) →
    ((other : HalfEdge) → lookup (same_half other) after ≡ cond (same_half half other) value (lookup (same_half other) few)) →
    (other : HalfEdge) → lookup (same_half other) (after ++ more) ≡ cond (same_half half other) value (lookup (same_half other) (few ++ more))
few_changed few after more half value none changes other =
    lookup_both (same_half other) after more
    ∙ ap (λ found. either found (lookup (same_half other) more)) (changes other)
    ∙ by (same_half half other) refl value none
    ∙ ap (cond (same_half half other) value) (sym (lookup_both (same_half other) few more))
  where
    by : (b : Bool) → same_half half other ≡ b → (value : Option ℕ) → (value ≡ None → lookup (same_half half) more ≡ None) →
        either (cond b value (lookup (same_half other) few)) (lookup (same_half other) more)
        ≡ cond b value (either (lookup (same_half other) few) (lookup (same_half other) more))
    by true same None none = ap (λ h. lookup (same_half h) more) (sym (same_half_is half other same)) ∙ none refl
    by true same (Some v) none = refl
    by false apart value none = refl

-- a new entry at the end of a list
pub pushed : (few : List (HalfEdge × ℕ)) (half : HalfEdge) (value : ℕ) → lookup (same_half half) few ≡ None →
    (other : HalfEdge) → lookup (same_half other) (few ++ (half, value) ∷ []) ≡ cond (same_half half other) (Some value) (lookup (same_half other) few)
pushed few half value none other =
    lookup_both (same_half other) few ((half, value) ∷ [])
    ∙ ap (λ b. either (lookup (same_half other) few) (cond b (Some value) None)) (same_half_laws.symm other half)
    ∙ by (same_half half other) refl (lookup (same_half other) few) refl
  where
    by : (b : Bool) → same_half half other ≡ b → (found : Option ℕ) → lookup (same_half other) few ≡ found →
        either found (cond b (Some value) None) ≡ cond b (Some value) found
    by true same None is = refl
    by true same (Some v) is = absurd (by_none (sym is ∙ ap (λ h. lookup (same_half h) few) (sym (same_half_is half other same)) ∙ none))
      where
        by_none : Some v ≡ None → ⊥
        by_none e = cc
    by false apart None is = refl
    by false apart (Some v) is = refl

-- ---- distinct keys

-- an edge that isn't found has no key among those of the entries
no_key : (half : HalfEdge) (entries : List (HalfEdge × ℕ)) → lookup (same_half half) entries ≡ None →
    AllByRecursion (λ key. same_half half key ≡ false) (keys_of entries)
no_key half [] none = tt
no_key half (entry ∷ entries) none = by (same_half half entry.0) refl none (no_key half entries)
  where
    by : (b : Bool) → same_half half entry.0 ≡ b → cond b (Some entry.1) (lookup (same_half half) entries) ≡ None →
        (lookup (same_half half) entries ≡ None → AllByRecursion (λ key. same_half half key ≡ false) (keys_of entries)) →
        AllByRecursion (λ key. same_half half key ≡ false) (keys_of (entry ∷ entries))
    by true same none rest = absurd cc
    by false apart none rest = (apart, rest none)

-- entries in another order have distinct keys too
pub distinct_moved : (entries moved : List (HalfEdge × ℕ)) → IsPermutation entries moved → IsDistinct same_half (keys_of entries) →
    IsDistinct same_half (keys_of moved)
distinct_moved entries moved perm distinct =
    IsDistinct-IsPermutation same_half same_half_laws.symm (keys_of entries) (keys_of moved)
    (IsPermutation-map (λ (e : HalfEdge × ℕ). e.0) entries moved perm) distinct

-- a new entry leaves the keys distinct, wherever it comes in
pub distinct_more : (few more : List (HalfEdge × ℕ)) (half : HalfEdge) (value : ℕ) → IsDistinct same_half (keys_of (few ++ more)) →
    lookup (same_half half) (few ++ more) ≡ None → IsDistinct same_half (keys_of (few ++ ((half, value) ∷ more)))
distinct_more few more half value distinct none =
    distinct_moved ((half, value) ∷ (few ++ more)) (few ++ ((half, value) ∷ more))
    (IsPermutation-sym (few ++ ((half, value) ∷ more)) ((half, value) ∷ (few ++ more)) (IsPermutation-middle few (half, value) more))
    (IsDistinct-cons same_half half (keys_of (few ++ more)) (no_key half (few ++ more) none) distinct)

-- an entry that goes leaves the others distinct
pub distinct_less : (entries rest : List (HalfEdge × ℕ)) (entry : HalfEdge × ℕ) → IsPermutation entries (entry ∷ rest) →
    IsDistinct same_half (keys_of entries) → IsDistinct same_half (keys_of rest)
distinct_less entries rest entry perm distinct =
    IsDistinct-tail same_half entry.0 (keys_of rest) (distinct_moved entries (entry ∷ rest) perm distinct)
