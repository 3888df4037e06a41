-- Lists with one element more.
use Rattle.std.proofs.Common.{◌≡◌, ℕ, ◌<◌, List, [], ◌∷◌, ◌++◌, length, get_or, refl, sym, ap, ap₂, subst, ◌⊎◌, inl, inr, ⊎_elim, arith}
use Rattle.std.specs.Prelude.{All, AllPairs}
use Rattle.std.proofs.lemmas.List.{get_or_append_left, get_or_push, length_push}

-- what holds of all holds of those in front
pub all_front : {X : Type 0} (holds : X → Type 0) (xs : List X) (x : X) → All holds (xs ++ x ∷ []) → All holds xs
all_front holds xs x all k d below =
    subst holds (get_or_append_left xs (x ∷ []) d k below) (all k d (omega (arith, below, length_push xs x)))

-- and of the last
pub all_last : {X : Type 0} (holds : X → Type 0) (xs : List X) (x : X) → All holds (xs ++ x ∷ []) → holds x
all_last holds xs x all = subst holds (get_or_push xs x x (length xs) refl) (all (length xs) x (omega (arith, length_push xs x)))

-- what holds of all pairs holds of those in front
pub pairs_front : {X : Type 0} (ties : X → X → Type 0) (xs : List X) (x : X) → AllPairs ties (xs ++ x ∷ []) → AllPairs ties xs
pairs_front ties xs x all i j d order below =
    subst (λ each. ties each (get_or xs j d)) (get_or_append_left xs (x ∷ []) d i (omega (arith, order, below)))
    (subst (λ each. ties (get_or (xs ++ x ∷ []) i d) each) (get_or_append_left xs (x ∷ []) d j below)
    (all i j d order (omega (arith, below, length_push xs x))))

-- and of each of these and the last
pub pairs_last : {X : Type 0} (ties : X → X → Type 0) (xs : List X) (x : X) → AllPairs ties (xs ++ x ∷ []) →
    (k : ℕ) (d : X) → k < length xs → ties (get_or xs k d) x
pairs_last ties xs x all k d below =
    subst (λ each. ties each x) (get_or_append_left xs (x ∷ []) d k below)
    (subst (λ each. ties (get_or (xs ++ x ∷ []) k d) each) (get_or_push xs x d (length xs) refl)
    (all k (length xs) d below (omega (arith, length_push xs x))))

-- the cut of a list before an element, which has these in front of it
pub record IsCut {X : Type 0} (xs before : List X) (y : X) : Type 0 where
  pub rest : List X
  pub whole : xs ≡ before ++ y ∷ rest

-- a list that is cut before an element isn't empty
pub cut_has_one : {X : Type 0} (before after : List X) (y : X) → 0 < length (before ++ y ∷ after)
cut_has_one [] after y = omega arith
cut_has_one (first ∷ before) after y = omega arith

-- a list with one element more is cut before that element or before one in front of it
pub cut_of_push : {X : Type 0} (xs before after : List X) (x y : X) → xs ++ x ∷ [] ≡ before ++ y ∷ after →
    ((before ≡ xs) × (y ≡ x)) ⊎ IsCut xs before y
cut_of_push [] [] after x y is = inl (refl, cc)
cut_of_push [] (first ∷ before) after x y is =
    let none : [] ≡ before ++ y ∷ after = cc in
    absurd (omega (arith, cut_has_one before after y, ap length none))
cut_of_push (other ∷ xs) [] after x y is = inr (record { rest = xs; whole = ap (λ each. each ∷ xs) (cc) })
cut_of_push (other ∷ xs) (first ∷ before) after x y is =
    let same : other ≡ first = cc in
    let later : xs ++ x ∷ [] ≡ before ++ y ∷ after = cc in
    ⊎_elim
    (λ behind. inl (ap₂ (λ one rest. one ∷ rest) (sym same) behind.0, behind.1))
    (λ cut. inr (record { rest = cut.rest; whole = ap₂ (λ one rest. one ∷ rest) same cut.whole }))
    (cut_of_push xs before after x y later)
