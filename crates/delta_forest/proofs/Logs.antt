-- The members of lists that are joined, each once.
use Rattle.std.proofs.Common.{◌≡◌, ◌≢◌, ℕ, suc, ◌<◌, List, [], ◌∷◌, ◌++◌, refl, sym, subst, ◌⊎◌, inl, inr, ⊎_elim, arith}
use Rattle.std.specs.Prelude.{◌↔◌, All, AllPairs, Contains, flat_map}
use Rattle.std.proofs.lemmas.List.Elements.{All-append, All-contains, All-contains_itself, All-weaker, Contains-append_cases, Contains-append_left, Contains-append_right}
use Rattle.std.proofs.lemmas.List.Kept.{AllPairs-cons}
use Rattle.rpq_base.proofs.Members.{cons_members, none_in}
use Rattle.source_tree.specs.declared.change.EndChange.{EndChange}

pub joined_members : {X Y : Type 0} (f : X → List Y) (xs : List X) (y : Y) →
    Contains (flat_map f xs) y ↔ ((x : X) × Contains xs x × Contains (f x) y)
joined_members f [] y =
    ((λ member. absurd (none_in y member)), (λ has. absurd (none_in has.0 has.1)))
joined_members f (first ∷ rest) y = (
  (λ member. ⊎_elim
      (λ (here : Contains (f first) y).
      (first, (cons_members first rest first).1 (inl refl), here))
      (λ later.
      let has = (joined_members f rest y).0 later in
      (has.0, (cons_members first rest has.0).1 (inr has.1), has.2))
      (Contains-append_cases (f first) (flat_map f rest) y member)),
  (λ has. ⊎_elim
      (λ (here : first ≡ has.0).
      Contains-append_left (f first) (flat_map f rest) y
      (subst (λ x. Contains (f x) y) (sym here) has.2))
      (λ later.
      Contains-append_right (f first) (flat_map f rest) y
      ((joined_members f rest y).1 (has.0, later, has.2)))
      ((cons_members first rest has.0).0 has.1)),
)

pub pairs_head : {X : Type 0} (R : X → X → Type 0) (first : X) (rest : List X) →
    AllPairs R (first ∷ rest) → All (R first) rest
pairs_head R first rest pairs = λ k d within.
    pairs 0 (suc k) d (omega arith) (omega (arith, within))

pub pairs_tail : {X : Type 0} (R : X → X → Type 0) (first : X) (rest : List X) →
    AllPairs R (first ∷ rest) → AllPairs R rest
pairs_tail R first rest pairs = λ i j d less within.
    pairs (suc i) (suc j) d (omega (arith, less)) (omega (arith, within))

pairs_append : {X : Type 0} (R : X → X → Type 0) (xs ys : List X) → AllPairs R xs →
    AllPairs R ys → ((x y : X) → Contains xs x → Contains ys y → R x y) → AllPairs R (xs ++ ys)
pairs_append R [] ys first second across = second
pairs_append R (x ∷ xs) ys first second across = AllPairs-cons R x (xs ++ ys)
    (All-append (R x) xs ys (pairs_head R x xs first)
    (All-weaker (Contains ys) (R x)
    (λ y member. across x y ((cons_members x xs x).1 (inl refl)) member) ys
    (All-contains_itself ys)))
    (pairs_append R xs ys (pairs_tail R x xs first) second
    (λ one y member other. across one y ((cons_members x xs one).1 (inr member)) other))

-- changes of different roots, or of different vertices
abbrev pub AreApart : EndChange → EndChange → Type 0
AreApart first second = (first.root ≢ second.root) ⊎ (first.vertex ≢ second.vertex)

-- lists of changes of the vertices of a root each, for roots that rise
pub logs_once : (log : ℕ → List EndChange) (roots : List ℕ) →
    AllPairs (λ (first second : ℕ). first < second) roots →
    ((root : ℕ) → Contains roots root → AllPairs AreApart (log root)) →
    ((root : ℕ) (each : EndChange) → Contains roots root → Contains (log root) each →
    each.root ≡ root) → AllPairs AreApart (flat_map log roots)
logs_once log [] rise once rooted = λ i j d less within. absurd (omega (arith, within))
logs_once log (first ∷ rest) rise once rooted =
    pairs_append AreApart (log first) (flat_map log rest)
    (once first ((cons_members first rest first).1 (inl refl)))
    (logs_once log rest (pairs_tail (λ (one other : ℕ). one < other) first rest rise)
    (λ root listed. once root ((cons_members first rest root).1 (inr listed)))
    (λ root each listed member. rooted root each ((cons_members first rest root).1 (inr listed))
    member))
    (λ one other member further.
    let at = (joined_members log rest other).0 further in
    let less : first < at.0 = All-contains (λ (root : ℕ). first < root) rest at.0
    (pairs_head (λ (one other : ℕ). one < other) first rest rise) at.1 in
    let here = rooted first one ((cons_members first rest first).1 (inl refl)) member in
    let there = rooted at.0 other ((cons_members first rest at.0).1 (inr at.1)) at.2 in
    inl (λ same. omega (arith, less, here, there, same)))
