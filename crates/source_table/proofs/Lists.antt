-- Lists read by places.
use Rattle.std.proofs.Common.{◌≡◌, ◌<◌, ◌+◌, ◌⊎◌, inl, inr, ℕ, zero, suc, Bool, true, false, cond, List, [], ◌∷◌, ◌++◌, length, get_or, take, drop, find, map, option_map, Option, None, Some, slice_get, refl, sym, ap, ◌∙◌, arith}
use Rattle.std.proofs.lemmas.Option.{slice_get-map}
use Rattle.std.proofs.lemmas.List.{take_all, drop_all, append-nil}

pub none_or_some : {X : Type 0} (x : X) → None ≡ Some x → ⊥
none_or_some x is = cc

pub some_is_one : {X : Type 0} (x y : X) → Some x ≡ Some y → x ≡ y
some_is_one x y is = cc

-- an option that isn't something is none
pub none_from : {X : Type 0} (found : Option X) → ((x : X) → found ≡ Some x → ⊥) → found ≡ None
none_from None never = refl
none_from (Some x) never = absurd (never x refl)

-- two numbers are the same, or one is the less
pub by_order : (one other : ℕ) → (one < other) ⊎ ((one ≡ other) ⊎ (other < one))
by_order zero zero = inr (inl refl)
by_order zero (suc other) = inl (omega arith)
by_order (suc one) zero = inr (inr (omega arith))
by_order (suc one) (suc other) = elim (by_order one other) [
  | inl less ↦ inl (omega (arith, less))
  | inr rest ↦ inr (elim rest [
    | inl same ↦ inl (ap suc same)
    | inr more ↦ inr (omega (arith, more))
  ])
]

-- a place below the length is before the last, or the last
pub before_last : (k n : ℕ) → k < n → (k + 1 < n) ⊎ (k + 1 ≡ n)
before_last k n below = elim (by_order (k + 1) n) [
  | inl less ↦ inl less
  | inr rest ↦ elim rest [
    | inl same ↦ inr same
    | inr more ↦ absurd (omega (arith, below, more))
  ]
]

-- ---- one element more

pub kept_by_push : {X : Type 0} (xs ys : List X) (k : ℕ) (x : X) → slice_get xs k ≡ Some x →
    slice_get (xs ++ ys) k ≡ Some x
kept_by_push [] ys k x is = absurd (none_or_some x is)
kept_by_push (z ∷ zs) ys zero x is = is
kept_by_push (z ∷ zs) ys (suc k) x is = kept_by_push zs ys k x is

pub pushed_last : {X : Type 0} (xs : List X) (y : X) → slice_get (xs ++ y ∷ []) (length xs) ≡ Some y
pushed_last [] y = refl
pushed_last (x ∷ xs) y = pushed_last xs y

pub push_cases : {X : Type 0} (xs : List X) (y : X) (k : ℕ) (x : X) →
    slice_get (xs ++ y ∷ []) k ≡ Some x →
    (slice_get xs k ≡ Some x) ⊎ ((k ≡ length xs) × (y ≡ x))
push_cases [] y zero x is = inr (refl, some_is_one y x is)
push_cases [] y (suc k) x is = absurd (none_or_some x is)
push_cases (z ∷ zs) y zero x is = inl is
push_cases (z ∷ zs) y (suc k) x is = elim (push_cases zs y k x is) [
  | inl there ↦ inl there
  | inr last ↦ inr (ap suc last.0, last.1)
]

-- ---- the first that passes a test

-- what is found stands somewhere and passes
pub found_at : {X : Type 0} (test : X → Bool) (xs : List X) (x : X) → find test xs ≡ Some x →
    (k : ℕ) × (slice_get xs k ≡ Some x) × (test x ≡ true)
found_at test [] x is = absurd (none_or_some x is)
found_at test (y ∷ ys) x is = by (test y) refl is (found_at test ys x)
  where
    by : (b : Bool) → test y ≡ b → cond b (Some y) (find test ys) ≡ Some x →
        (find test ys ≡ Some x → (k : ℕ) × (slice_get ys k ≡ Some x) × (test x ≡ true)) →
        (k : ℕ) × (slice_get (y ∷ ys) k ≡ Some x) × (test x ≡ true)
    by true passes here later = (0, here, ap test (sym (some_is_one y x here)) ∙ passes)
    by false fails there later = let (k, at, passes) = later there in (suc k, at, passes)

-- where something passes, something is found
pub finds : {X : Type 0} (test : X → Bool) (xs : List X) (k : ℕ) (x : X) →
    slice_get xs k ≡ Some x → test x ≡ true → (y : X) × (find test xs ≡ Some y)
finds test [] k x is passes = absurd (none_or_some x is)
finds test (z ∷ zs) zero x is passes =
    (z, ap (λ b. cond b (Some z) (find test zs)) (ap test (some_is_one z x is) ∙ passes))
finds {X} test (z ∷ zs) (suc k) x is passes = by (test z) (finds test zs k x is passes)
  where
    by : (b : Bool) → (y : X) × (find test zs ≡ Some y) →
        (y : X) × (cond b (Some z) (find test zs) ≡ Some y)
    by true later = (z, refl)
    by false later = later

-- ---- what a function gives of each

pub mapped : {X Y : Type 0} (f : X → Y) (xs : List X) (k : ℕ) (x : X) → slice_get xs k ≡ Some x →
    slice_get (map f xs) k ≡ Some (f x)
mapped f xs k x is = slice_get-map f xs k ∙ ap (option_map f) is

pub mapped_from : {X Y : Type 0} (f : X → Y) (xs : List X) (k : ℕ) (y : Y) →
    slice_get (map f xs) k ≡ Some y → (x : X) × (slice_get xs k ≡ Some x) × (f x ≡ y)
mapped_from {X} f xs k y is = by (slice_get xs k) refl (sym (slice_get-map f xs k) ∙ is)
  where
    by : (found : Option X) → slice_get xs k ≡ found → option_map f found ≡ Some y →
        (x : X) × (slice_get xs k ≡ Some x) × (f x ≡ y)
    by None at gives = absurd (none_or_some y gives)
    by (Some x) at gives = (x, at, some_is_one (f x) y gives)

-- lists of the same length that agree at each place
pub same_lists : {X Y : Type 0} (f : X → Y) (old new : List X) → length new ≡ length old →
    ((k : ℕ) (d : X) → k < length old → f (get_or new k d) ≡ f (get_or old k d)) →
    map f new ≡ map f old
same_lists f [] [] len each = refl
same_lists f [] (y ∷ ys) len each = absurd (omega (arith, len))
same_lists f (x ∷ xs) [] len each = absurd (omega (arith, len))
same_lists f (x ∷ xs) (y ∷ ys) len each =
    (λ i. each 0 x (omega arith) i ∷ same_lists f xs ys (omega (arith, len))
    (λ k d below. each (suc k) d (omega (arith, below))) i)

-- a list that was written whole through a loan
pub whole : {X : Type 0} (len : ℕ) (old new : List X) → len ≡ length old →
    length new ≡ length old → take len (new ++ drop (length new) old) ≡ new
whole {X} len old new is same =
    ap (λ (rest : List X). take len (new ++ rest))
    (drop_all (length new) old (omega (arith, same)))
    ∙ ap (take len) (append-nil new) ∙ take_all len new (omega (arith, is, same))
