-- What is made of the elements of a list, where something is.
use Rattle.std.proofs.Common.{◌≡◌, inl, inr, ℕ, ◌+◌, ◌<◌, suc, List, [], ◌∷◌, ◌++◌, take, length, get_or, Option, None, Some, refl, sym, ap, subst, ◌∙◌, Contains, append_assoc, arith}
use Rattle.std.specs.Prelude.{All, AllPairs}
use Rattle.std.specs.List.{cons_option, filter_map}
use Rattle.std.proofs.Math.Seq.{take-length}
use Rattle.std.proofs.lemmas.List.{take_more}
use Rattle.std.proofs.lemmas.List.Elements.{All-contains, Contains-get_or, filter_map-append}
use Rattle.std.proofs.lemmas.List.Kept.{AllPairs-cons}
use Rattle.tree_insert.proofs.Members.{contains_head, contains_tail, contains_cases, contains_none}

-- ---- the list, while it is made

-- one element more was looked at
pub filter_more : {X Y : Type 0} (h : X → Option Y) (xs : List X) (first now new : List Y) (k : ℕ)
    (d : X) → now ≡ first ++ filter_map h (take k xs) → k < length xs →
    new ≡ now ++ cons_option (h (get_or xs k d)) [] →
    new ≡ first ++ filter_map h (take (k + 1) xs)
filter_more h xs first now new k d before within is =
    let x = get_or xs k d in
    is ∙ ap (λ l. l ++ cons_option (h x) []) before
    ∙ append_assoc first (filter_map h (take k xs)) (cons_option (h x) [])
    ∙ ap (λ l. first ++ l) (sym (filter_map-append h (take k xs) (x ∷ [])))
    ∙ ap (λ l. first ++ filter_map h l) (sym (take_more xs k d within))

-- all elements were looked at
pub filter_all : {X Y : Type 0} (h : X → Option Y) (xs : List X) (first now : List Y) (k : ℕ) →
    now ≡ first ++ filter_map h (take k xs) → k ≡ length xs → now ≡ first ++ filter_map h xs
filter_all h xs first now k is all =
    is ∙ ap (λ l. first ++ filter_map h l) (ap (λ n. take n xs) all ∙ take-length xs)

-- what is made of the elements by two steps
pub two_steps : {X M Y : Type 0} (k : X → Option M) (g : Option M → Option Y) → g None ≡ None →
    (xs : List X) →
    filter_map (λ x. g (k x)) xs ≡ filter_map (λ m. g (Some m)) (filter_map k xs)
two_steps k g none [] = refl
two_steps {X} {M} {Y} k g none (x ∷ xs) = by (k x) (two_steps k g none xs)
  where
    by : (found : Option M) →
        filter_map (λ x. g (k x)) xs ≡ filter_map (λ m. g (Some m)) (filter_map k xs) →
        cons_option (g found) (filter_map (λ x. g (k x)) xs)
        ≡ filter_map (λ m. g (Some m)) (cons_option found (filter_map k xs))
    by None rest = ap (λ each. cons_option each (filter_map (λ x. g (k x)) xs)) none ∙ rest
    by (Some m) rest = ap (cons_option (g (Some m))) rest

-- ---- its members

-- an element of the list of which this is made
pub record IsMade {X Y : Type 0} (h : X → Option Y) (xs : List X) (y : Y) : Type 0 where
  pub from : X
  pub there : Contains xs from
  pub makes : h from ≡ Some y

pub from_filter : {X Y : Type 0} (h : X → Option Y) (xs : List X) (y : Y) →
    Contains (filter_map h xs) y → IsMade h xs y
from_filter h [] y has = absurd (contains_none y has)
from_filter {X} {Y} h (x ∷ xs) y has = by (h x) refl (from_filter h xs y) has
  where
    later : IsMade h xs y → IsMade h (x ∷ xs) y
    later made = record {
      from = made.from;
      there = contains_tail x xs made.from made.there;
      makes = made.makes;
    }

    by : (found : Option Y) → h x ≡ found → (Contains (filter_map h xs) y → IsMade h xs y) →
        Contains (cons_option found (filter_map h xs)) y → IsMade h (x ∷ xs) y
    by None is rest has = later (rest has)
    by (Some one) is rest has = elim (contains_cases one (filter_map h xs) y has) [
      | inl here ↦ record { from = x; there = contains_head x xs; makes = is ∙ ap Some here }
      | inr more ↦ later (rest more)
    ]

pub in_filter : {X Y : Type 0} (h : X → Option Y) (xs : List X) (x : X) (y : Y) →
    Contains xs x → h x ≡ Some y → Contains (filter_map h xs) y
in_filter h [] x y there is = absurd (contains_none x there)
in_filter {X} {Y} h (first ∷ xs) x y there is =
    elim (contains_cases first xs x there) [
      | inl here ↦ subst (λ found. Contains (cons_option found (filter_map h xs)) y)
          (sym (ap h here ∙ is)) (contains_head y (filter_map h xs))
      | inr more ↦ by (h first) (in_filter h xs x y more is)
    ]
  where
    by : (found : Option Y) → Contains (filter_map h xs) y →
        Contains (cons_option found (filter_map h xs)) y
    by None has = has
    by (Some one) has = contains_tail one (filter_map h xs) y has

-- ---- what holds of two of them

pub pairs_head : {X : Type 0} (R : X → X → Type 0) (x : X) (xs : List X) → AllPairs R (x ∷ xs) →
    All (R x) xs
pairs_head R x xs pairs k d within = pairs 0 (suc k) d (omega arith) (omega (arith, within))

pub pairs_tail : {X : Type 0} (R : X → X → Type 0) (x : X) (xs : List X) → AllPairs R (x ∷ xs) →
    AllPairs R xs
pairs_tail R x xs pairs i j d before within =
    pairs (suc i) (suc j) d (omega (arith, before)) (omega (arith, within))

module _ {X Y : Type 0} (h : X → Option Y) (R : X → X → Type 0) (P : Y → Y → Type 0)
    (kept : (x z : X) (a b : Y) → R x z → h x ≡ Some a → h z ≡ Some b → P a b) where
  all_made : (x : X) (a : Y) (xs : List X) → h x ≡ Some a → All (R x) xs →
      All (P a) (filter_map h xs)
  all_made x a xs is all k d within =
      let y = get_or (filter_map h xs) k d in
      let made = from_filter h xs y (Contains-get_or (filter_map h xs) k d within) in
      kept x made.from a y (All-contains (R x) xs made.from all made.there) is made.makes

  pub pairs_filtered : (xs : List X) → AllPairs R xs → AllPairs P (filter_map h xs)
  pairs_filtered [] pairs = λ i j d before within. absurd (omega (arith, within))
  pairs_filtered (x ∷ xs) pairs =
      by (h x) refl (pairs_filtered xs (pairs_tail R x xs pairs))
    where
      by : (found : Option Y) → h x ≡ found → AllPairs P (filter_map h xs) →
          AllPairs P (cons_option found (filter_map h xs))
      by None is rest = rest
      by (Some y) is rest = AllPairs-cons P y (filter_map h xs)
          (all_made x y xs is (pairs_head R x xs pairs)) rest
