-- The order of entries, and of those around a key.
use Rattle.std.proofs.Common.{◌≡◌, Bool, true, false, cond, List, [], ◌∷◌, ◌++◌, get_or, Result, Ok, Err, Ordering, refl, sym, ap, subst, ◌∙◌, arith}
use Rattle.std.specs.Prelude.{All, OnOk, OnErr}
use Rattle.std.specs.List.{AllByRecursion}
use Rattle.std.specs.List.Sorted.{IsStrictlySortedBy}
use Rattle.std.specs.BTreeMap.{insert_entry}
use Rattle.std.specs.BTreeSet.{insert_key}
use Rattle.std.specs.Cmp.{IsTotalOrder}
use Rattle.std.specs.Map.{keys_of, remove_entry}
use Rattle.std.specs.Ordering.{is_lt, match_ordering, ordering_reverse}
use Rattle.std.specs.declared.cmp.Ordering.TheVariants.{Less, Equal, Greater}
use Rattle.std.proofs.lemmas.List.{map-append, length-append, get_or_append_left}
use Rattle.std.proofs.lemmas.List.Elements.{All-nil, All-cons, All-from_recursion}
use Rattle.std.proofs.lemmas.Map.Keys.{sorted_head, sorted_tail}
use Rattle.std.proofs.lemmas.Map.Views.{All-map-remove_entry}
use Rattle.rpq_base.proofs.Sorted.{sorted_nil, sorted_cons, insert_sorted}
use Rattle.shared_map.specs.Chunks.{IsAbove, IsBelow}

-- ---- parts of a list in order

all_left : {X : Type 0} (P : X → Type 0) (firsts others : List X) → All P (firsts ++ others) →
    All P firsts
all_left P firsts others all = λ k d within.
    subst P (get_or_append_left firsts others d k within)
    (all k d (let both = length-append firsts others in omega (arith, within, both)))

sorted_left : {X : Type 0} (cmp : X → X → Ordering) (firsts others : List X) →
    IsStrictlySortedBy cmp (firsts ++ others) → IsStrictlySortedBy cmp firsts
sorted_left cmp [] others sorted = sorted_nil cmp
sorted_left {X} cmp (first ∷ rest) others sorted =
    sorted_cons cmp first rest
    (all_left (λ (each : X). cmp first each ≡ Less) rest others
    (All-from_recursion (λ (each : X). cmp first each ≡ Less) (rest ++ others)
    (sorted_head cmp first (rest ++ others) sorted)))
    (sorted_left cmp rest others (sorted_tail cmp first (rest ++ others) sorted))

sorted_right : {X : Type 0} (cmp : X → X → Ordering) (firsts others : List X) →
    IsStrictlySortedBy cmp (firsts ++ others) → IsStrictlySortedBy cmp others
sorted_right cmp [] others sorted = sorted
sorted_right cmp (first ∷ rest) others sorted =
    sorted_right cmp rest others (sorted_tail cmp first (rest ++ others) sorted)

pub keys_left : {K V : Type 0} (cmp : K → K → Ordering) (firsts others : List (K × V)) →
    IsStrictlySortedBy cmp (keys_of (firsts ++ others)) → IsStrictlySortedBy cmp (keys_of firsts)
keys_left {K} {V} cmp firsts others sorted =
    sorted_left cmp (keys_of firsts) (keys_of others)
    (subst (IsStrictlySortedBy cmp) (map-append (λ (each : K × V). each.0) firsts others) sorted)

pub keys_right : {K V : Type 0} (cmp : K → K → Ordering) (firsts others : List (K × V)) →
    IsStrictlySortedBy cmp (keys_of (firsts ++ others)) → IsStrictlySortedBy cmp (keys_of others)
keys_right {K} {V} cmp firsts others sorted =
    sorted_right cmp (keys_of firsts) (keys_of others)
    (subst (IsStrictlySortedBy cmp) (map-append (λ (each : K × V). each.0) firsts others) sorted)

-- ---- a key before all entries, or behind them

by_keys : {K V : Type 0} (P : K → Type 0) (entries : List (K × V)) →
    AllByRecursion P (keys_of entries) → All (λ entry. P entry.0) entries
by_keys {K} {V} P [] all = All-nil (λ (entry : K × V). P entry.0)
by_keys {K} {V} P (first ∷ rest) all =
    All-cons (λ (entry : K × V). P entry.0) first rest all.0 (by_keys P rest all.1)

passes_at : {K V : Type 0} (P : K → Type 0) (before : List (K × V)) (entry : K × V)
    (rest : List (K × V)) → AllByRecursion P (keys_of (before ++ entry ∷ rest)) → P entry.0
passes_at P [] entry rest all = all.0
passes_at P (first ∷ before) entry rest all = passes_at P before entry rest all.1

-- a key below the first entry is below all
pub below_all : {K V : Type 0} {cmp : K → K → Ordering} → IsTotalOrder cmp → (key : K)
    (entry : K × V) (rest : List (K × V)) → IsStrictlySortedBy cmp (keys_of (entry ∷ rest)) →
    cmp key entry.0 ≡ Less → IsBelow cmp key (entry ∷ rest)
below_all {K} {V} {cmp} total key entry rest sorted less =
    let above = by_keys (λ (each : K). cmp entry.0 each ≡ Less) rest
    (sorted_head cmp entry.0 (keys_of rest) sorted) in
    All-cons (λ (each : K × V). cmp key each.0 ≡ Less) entry rest less
    (λ k d within. total.trans key entry.0 (get_or rest k d).0 less (above k d within))

above_one : {K : Type 0} {cmp : K → K → Ordering} → IsTotalOrder cmp → (order : Ordering)
    (key first here : K) → cmp key here ≡ order → (order ≡ Less → ⊥) → cmp first here ≡ Less →
    cmp key first ≡ Greater
above_one total Less key first here is high less = absurd (high refl)
above_one total Equal key first here is high less =
    total.congr key here first is ∙ (total.antisymm here first ∙ ap ordering_reverse less)
above_one total Greater key first here is high less =
    total.antisymm key first
    ∙ ap ordering_reverse (total.trans first here key less
    (total.antisymm here key ∙ ap ordering_reverse is))

-- a key that isn't below an entry is above all before it
pub above_all : {K V : Type 0} {cmp : K → K → Ordering} → IsTotalOrder cmp → (key : K)
    (before : List (K × V)) (entry : K × V) (rest : List (K × V)) →
    IsStrictlySortedBy cmp (keys_of (before ++ entry ∷ rest)) → (cmp key entry.0 ≡ Less → ⊥) →
    IsAbove cmp key before
above_all {K} {V} {cmp} total key [] entry rest sorted high =
    All-nil (λ (each : K × V). cmp key each.0 ≡ Greater)
above_all {K} {V} {cmp} total key (first ∷ before) entry rest sorted high =
    let others = keys_of (before ++ entry ∷ rest) in
    All-cons (λ (each : K × V). cmp key each.0 ≡ Greater) first before
    (above_one total (cmp key entry.0) key first.0 entry.0 refl high
    (passes_at (λ (each : K). cmp first.0 each ≡ Less) before entry rest
    (sorted_head cmp first.0 others sorted)))
    (above_all total key before entry rest (sorted_tail cmp first.0 others sorted) high)

-- ---- edits keep the order

keys_step : {K V : Type 0} (cmp : K → K → Ordering) (order : Ordering) (key : K) (value : V)
    (entry : K × V) (rest : List (K × V)) →
    keys_of (insert_entry cmp rest key value) ≡ insert_key cmp (keys_of rest) key →
    keys_of (match_ordering order ((key, value) ∷ entry ∷ rest) ((entry.0, value) ∷ rest)
    (entry ∷ insert_entry cmp rest key value))
    ≡ match_ordering order (key ∷ entry.0 ∷ keys_of rest) (entry.0 ∷ keys_of rest)
    (entry.0 ∷ insert_key cmp (keys_of rest) key)
keys_step cmp Less key value entry rest further = refl
keys_step cmp Equal key value entry rest further = refl
keys_step {K} {V} cmp Greater key value entry rest further =
    ap (λ (keys : List K). entry.0 ∷ keys) further

keys_put : {K V : Type 0} (cmp : K → K → Ordering) (entries : List (K × V)) (key : K) (value : V) →
    keys_of (insert_entry cmp entries key value) ≡ insert_key cmp (keys_of entries) key
keys_put cmp [] key value = refl
keys_put cmp (entry ∷ rest) key value =
    keys_step cmp (cmp key entry.0) key value entry rest (keys_put cmp rest key value)

pub insert_in_order : {K V : Type 0} {cmp : K → K → Ordering} → IsTotalOrder cmp →
    (entries : List (K × V)) (key : K) (value : V) → IsStrictlySortedBy cmp (keys_of entries) →
    IsStrictlySortedBy cmp (keys_of (insert_entry cmp entries key value))
insert_in_order {K} {V} {cmp} total entries key value sorted =
    subst (IsStrictlySortedBy cmp) (sym (keys_put cmp entries key value))
    (insert_sorted total (keys_of entries) key sorted)

remove_step : {K V : Type 0} (cmp : K → K → Ordering) (test : K → Bool) (passes : Bool)
    (entry : K × V) (rest : List (K × V)) → IsStrictlySortedBy cmp (keys_of (entry ∷ rest)) →
    IsStrictlySortedBy cmp (keys_of (remove_entry test rest)) →
    IsStrictlySortedBy cmp (keys_of (cond passes rest (entry ∷ remove_entry test rest)))
remove_step cmp test true entry rest sorted further = sorted_tail cmp entry.0 (keys_of rest) sorted
remove_step {K} {V} cmp test false entry rest sorted further =
    sorted_cons cmp entry.0 (keys_of (remove_entry test rest))
    (All-map-remove_entry test (λ (each : K × V). each.0) (λ (each : K). cmp entry.0 each ≡ Less) rest
    (All-from_recursion (λ (each : K). cmp entry.0 each ≡ Less) (keys_of rest)
    (sorted_head cmp entry.0 (keys_of rest) sorted)))
    further

pub remove_in_order : {K V : Type 0} (cmp : K → K → Ordering) (test : K → Bool)
    (entries : List (K × V)) → IsStrictlySortedBy cmp (keys_of entries) →
    IsStrictlySortedBy cmp (keys_of (remove_entry test entries))
remove_in_order cmp test [] sorted = sorted
remove_in_order cmp test (entry ∷ rest) sorted =
    remove_step cmp test (test entry.0) entry rest sorted
    (remove_in_order cmp test rest (sorted_tail cmp entry.0 (keys_of rest) sorted))

-- ---- tests

pub less_from : (order : Ordering) → is_lt order ≡ true → order ≡ Less
less_from Less e = refl
less_from Equal e = cc
less_from Greater e = cc

pub high_from : (order : Ordering) → is_lt order ≡ false → order ≡ Less → ⊥
high_from Less e less = cc
high_from Equal e less = cc
high_from Greater e less = cc

-- ---- the order after a call

pub sorted_after_insert : {K V A E : Type 0} {cmp : K → K → Ordering} → IsTotalOrder cmp →
    (result : Result A E) (old new : List (K × V)) (key : K) (value : V) →
    IsStrictlySortedBy cmp (keys_of old) → OnOk result (new ≡ insert_entry cmp old key value) →
    OnErr result (new ≡ old) → IsStrictlySortedBy cmp (keys_of new)
sorted_after_insert {K} {V} {A} {E} {cmp} total (Ok x) old new key value sorted done kept =
    subst (λ (all : List (K × V)). IsStrictlySortedBy cmp (keys_of all)) (sym done)
    (insert_in_order total old key value sorted)
sorted_after_insert {K} {V} {A} {E} {cmp} total (Err e) old new key value sorted done kept =
    subst (λ (all : List (K × V)). IsStrictlySortedBy cmp (keys_of all)) (sym kept) sorted

pub sorted_after_remove : {K V A E : Type 0} (cmp : K → K → Ordering) (test : K → Bool)
    (result : Result A E) (old new : List (K × V)) → IsStrictlySortedBy cmp (keys_of old) →
    OnOk result (new ≡ remove_entry test old) → OnErr result (new ≡ old) →
    IsStrictlySortedBy cmp (keys_of new)
sorted_after_remove {K} {V} cmp test (Ok x) old new sorted done kept =
    subst (λ (all : List (K × V)). IsStrictlySortedBy cmp (keys_of all)) (sym done)
    (remove_in_order cmp test old sorted)
sorted_after_remove {K} {V} cmp test (Err e) old new sorted done kept =
    subst (λ (all : List (K × V)). IsStrictlySortedBy cmp (keys_of all)) (sym kept) sorted
