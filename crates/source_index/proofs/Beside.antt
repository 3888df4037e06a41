-- The roots of a vertex by its states, which are kept as two lists side by side.
use Rattle.std.proofs.Common.{◌≡◌, ◌≢◌, ◌⊎◌, inl, inr, ◌↔◌, ◌==◌, ◌<◌, ◌≤◌, ℕ, zero, suc, Bool, true, false, cond, List, [], ◌∷◌, Option, None, Some, Result, Ok, Err, Contains, length, get_or, set, slice_get, refl, sym, ap, subst, ◌∙◌, true≢false, eq-eqb, ne_eqb, eqb-true, arith}
use Rattle.std.specs.Prelude.{All, IfErr, insert, remove}
use Rattle.std.specs.Ordering.{nat_cmp}
use Rattle.std.specs.List.Sorted.{IsBinarySearchResult}
use Rattle.std.proofs.lemmas.List.Sorted.{searched}
use Rattle.std.specs.List.{zip}
use Rattle.std.specs.Map.{lookup}
use Rattle.std.specs.Option.{unwrap_or}
use Rattle.std.proofs.lemmas.List.{length-set, get_or-set_same}
use Rattle.std.proofs.lemmas.List.Edits.{length-insert, length-remove}
use Rattle.std.proofs.lemmas.List.Elements.{All-append, All-cons, All-drop, All-set, All-take}
use Rattle.std.proofs.lemmas.List.Kept.{AllPairs-cons}
use Rattle.std.proofs.lemmas.List.Quantifiers.{all_pairs_remove}
use Rattle.std.proofs.lemmas.Option.{get_or_from_slice_get, slice_get_within}
use Rattle.source_index.specs.Roots.{AddsRoot, DropsRoot}
use Rattle.source_index.specs.Vertex.{AddsAt, DropsAt, IsFree, IsInStep, IsRising, Rewrites, RootsByState, roots_in}

-- a number is below another or not
side : (a b : ℕ) → (a < b) ⊎ (b ≤ a)
side a zero = inr (omega arith)
side zero (suc b) = inl (omega arith)
side (suc a) (suc b) = elim (side a b) [
  | inl below ↦ inl (omega (arith, below))
  | inr from ↦ inr (omega (arith, from))
]

-- what a list has doesn't depend on what is read behind it
default_to : (numbers : List ℕ) (j d : ℕ) → j < length numbers →
    get_or numbers j d ≡ get_or numbers j 0
default_to [] j d within = absurd (omega (arith, within))
default_to (first ∷ rest) zero d within = refl
default_to (first ∷ rest) (suc j) d within = default_to rest j d (omega (arith, within))

-- ---- rising numbers

rising_tail : (first : ℕ) (rest : List ℕ) → IsRising (first ∷ rest) → IsRising rest
rising_tail first rest rising i j d below within =
    rising (suc i) (suc j) d (omega (arith, below)) (omega (arith, within))

rising_head : (first : ℕ) (rest : List ℕ) → IsRising (first ∷ rest) → (j : ℕ) →
    j < length rest → first < get_or rest j 0
rising_head first rest rising j within =
    rising 0 (suc j) 0 (omega arith) (omega (arith, within))

-- a number that was put where it belongs
all_above : (first state : ℕ) (rest : List ℕ) (place : ℕ) → first < state →
    All (λ (each : ℕ). first < each) rest →
    All (λ (each : ℕ). first < each) (insert rest place state)
all_above first state rest place below all =
    let Above : ℕ → Type 0 = λ (each : ℕ). first < each in
    All-append Above _ _ (All-take Above place rest all)
    (All-cons Above state _ below (All-drop Above place rest all))

-- the first of some numbers is below the others
all_behind : (first : ℕ) (rest : List ℕ) → IsRising (first ∷ rest) →
    All (λ (each : ℕ). first < each) rest
all_behind first rest rising j d within =
    rising 0 (suc j) d (omega arith) (omega (arith, within))

tail_free : (first : ℕ) (rest : List ℕ) (state place : ℕ) →
    IsFree (first ∷ rest) state (suc place) → IsFree rest state place
tail_free first rest state place free = record {
  within = omega (arith, free.within);
  before = λ each below. free.before (suc each) (omega (arith, below));
  behind = λ each from within. free.behind (suc each) (omega (arith, from)) (omega (arith, within));
}

pub rising_insert : (states : List ℕ) (state place : ℕ) → IsRising states →
    IsFree states state place → IsRising (insert states place state)
rising_insert states state zero rising free =
    AllPairs-cons (λ (first second : ℕ). first < second) state states
    (λ j d within. subst (λ each. state < each) (sym (default_to states j d within))
    (free.behind j (omega arith) within)) rising
rising_insert [] state (suc place) rising free = absurd (omega (arith, free.within))
rising_insert (first ∷ rest) state (suc place) rising free =
    AllPairs-cons (λ (first second : ℕ). first < second) first (insert rest place state)
    (all_above first state rest place (free.before 0 (omega arith)) (all_behind first rest rising))
    (rising_insert rest state place (rising_tail first rest rising)
    (tail_free first rest state place free))

-- what a binary search answers where a number isn't there
pub free_of : (states : List ℕ) (state : ℕ) (found : Result ℕ ℕ) →
    IsBinarySearchResult (λ each. nat_cmp each state) states found → IsRising states →
    IfErr found (IsFree states state)
free_of states state (Ok place) is rising = tt
free_of states state (Err place) is rising =
    let parts = searched states state (Err place) is rises in
    record { within = parts.0; before = parts.1; behind = parts.2 }
  where
    rises : (i j : ℕ) → i ≤ j → j < length states → get_or states i 0 ≤ get_or states j 0
    rises i j from within = elim (side i j) [
      | inl below ↦ omega (arith, rising i j 0 below within)
      | inr back ↦
          let same : i ≡ j = omega (arith, from, back) in
          omega (arith, ap (λ (each : ℕ). get_or states each 0) same)
    ]

-- ---- look-ups

-- the roots that are found beside a state
abbrev look : List ℕ → List (List ℕ) → ℕ → Option (List ℕ)
look states many state = lookup (λ each. state == each) (zip states many)

-- two writes at states that differ may come in either order
either_order : {X : Type 0} (a b : Bool) (x y z : X) → (a ≡ true → b ≡ true → ⊥) →
    cond a x (cond b y z) ≡ cond b y (cond a x z)
either_order true true x y z apart = absurd (apart refl refl)
either_order true false x y z apart = refl
either_order false true x y z apart = refl
either_order false false x y z apart = refl

-- a state isn't two numbers
not_both : (state first other : ℕ) → first < other → (state == first) ≡ true →
    (state == other) ≡ true → ⊥
not_both state first other below is also =
    let at_first : state ≡ first = eqb-true state first is in
    let at_other : state ≡ other = eqb-true state other also in
    omega (arith, below, at_first, at_other)

pub found_at : (states : List ℕ) (many : List (List ℕ)) (place : ℕ) →
    length many ≡ length states → IsRising states → place < length states →
    look states many (get_or states place 0) ≡ Some (get_or many place [])
found_at [] many place paired rising within = absurd (omega (arith, within))
found_at (first ∷ rest) [] place paired rising within = absurd (omega (arith, paired))
found_at (first ∷ rest) (roots ∷ more) zero paired rising within =
    ap (λ b. cond b (Some roots) (look rest more first)) (eq-eqb first first refl)
found_at (first ∷ rest) (roots ∷ more) (suc place) paired rising within =
    let above : first < get_or rest place 0 =
    rising_head first rest rising place (omega (arith, within)) in
    ap (λ b. cond b (Some roots) (look rest more (get_or rest place 0)))
    (ne_eqb (get_or rest place 0) first (λ is. omega (arith, above, is)))
    ∙ found_at rest more place (omega (arith, paired)) (rising_tail first rest rising)
    (omega (arith, within))

pub absent : (states : List ℕ) (many : List (List ℕ)) (state : ℕ) →
    ((each : ℕ) → each < length states → get_or states each 0 ≢ state) →
    look states many state ≡ None
absent [] many state apart = refl
absent (first ∷ rest) [] state apart = refl
absent (first ∷ rest) (roots ∷ more) state apart =
    ap (λ b. cond b (Some roots) (look rest more state))
    (ne_eqb state first (λ is. apart 0 (omega arith) (sym is)))
    ∙ absent rest more state (λ each within. apart (suc each) (omega (arith, within)))

set_at : (states : List ℕ) (many : List (List ℕ)) (place : ℕ) (roots : List ℕ) (state : ℕ) →
    length many ≡ length states → IsRising states → place < length states →
    look states (set many place roots) state
    ≡ cond (state == get_or states place 0) (Some roots) (look states many state)
set_at [] many place roots state paired rising within = absurd (omega (arith, within))
set_at (first ∷ rest) [] place roots state paired rising within = absurd (omega (arith, paired))
set_at (first ∷ rest) (had ∷ more) zero roots state paired rising within = by (state == first)
  where
    by : (b : Bool) → cond b (Some roots) (look rest more state)
        ≡ cond b (Some roots) (cond b (Some had) (look rest more state))
    by true = refl
    by false = refl
set_at (first ∷ rest) (had ∷ more) (suc place) roots state paired rising within =
    ap (cond (state == first) (Some had))
    (set_at rest more place roots state (omega (arith, paired)) (rising_tail first rest rising)
    (omega (arith, within)))
    ∙ either_order (state == first) (state == get_or rest place 0) (Some had) (Some roots)
    (look rest more state) (not_both state first (get_or rest place 0)
    (rising_head first rest rising place (omega (arith, within))))

insert_at : (states : List ℕ) (many : List (List ℕ)) (place new : ℕ) (roots : List ℕ)
    (state : ℕ) → length many ≡ length states → IsFree states new place →
    look (insert states place new) (insert many place roots) state
    ≡ cond (state == new) (Some roots) (look states many state)
insert_at states many zero new roots state paired free = refl
insert_at [] many (suc place) new roots state paired free = absurd (omega (arith, free.within))
insert_at (first ∷ rest) [] (suc place) new roots state paired free =
    absurd (omega (arith, paired))
insert_at (first ∷ rest) (had ∷ more) (suc place) new roots state paired free =
    ap (cond (state == first) (Some had))
    (insert_at rest more place new roots state (omega (arith, paired))
    (tail_free first rest new place free))
    ∙ either_order (state == first) (state == new) (Some had) (Some roots) (look rest more state)
    (not_both state first new (free.before 0 (omega arith)))

remove_at : (states : List ℕ) (many : List (List ℕ)) (place : ℕ) (state : ℕ) →
    length many ≡ length states → IsRising states → place < length states →
    look (remove states place) (remove many place) state
    ≡ cond (state == get_or states place 0) None (look states many state)
remove_at [] many place state paired rising within = absurd (omega (arith, within))
remove_at (first ∷ rest) [] place state paired rising within = absurd (omega (arith, paired))
remove_at (first ∷ rest) (had ∷ more) zero state paired rising within =
    by (state == first) refl
  where
    by : (b : Bool) → (state == first) ≡ b →
        look rest more state ≡ cond b None (cond b (Some had) (look rest more state))
    by true same =
        let at : state ≡ first = eqb-true state first same in
        absent rest more state (λ each inside is.
        let above : first < get_or rest each 0 = rising_head first rest rising each inside in
        omega (arith, above, is, at))
    by false other = refl
remove_at (first ∷ rest) (had ∷ more) (suc place) state paired rising within =
    ap (cond (state == first) (Some had))
    (remove_at rest more place state (omega (arith, paired)) (rising_tail first rest rising)
    (omega (arith, within)))
    ∙ either_order (state == first) (state == get_or rest place 0) (Some had) None
    (look rest more state) (not_both state first (get_or rest place 0)
    (rising_head first rest rising place (omega (arith, within))))

-- a number is in a list or not
is_there : (numbers : List ℕ) (number : ℕ) →
    Contains numbers number ⊎ (Contains numbers number → ⊥)
is_there [] number = inr (λ there. omega (arith, there.1))
is_there (first ∷ rest) number = elim (is_there rest number) [
  | inl there ↦ inl (suc there.0, omega (arith, there.1), there.2)
  | inr none ↦ by (first == number) refl none
]
  where
    by : (b : Bool) → (first == number) ≡ b → (Contains rest number → ⊥) →
        Contains (first ∷ rest) number ⊎ (Contains (first ∷ rest) number → ⊥)
    by true same none = inl (0, omega arith, eqb-true first number same)
    by false other none = inr (λ there. at there.0 there.1 there.2)
      where
        at : (k : ℕ) → k < length (first ∷ rest) → get_or (first ∷ rest) k number ≡ number → ⊥
        at zero within is = true≢false (sym (eq-eqb first number is) ∙ other)
        at (suc k) within is = none (k, omega (arith, within), is)

-- what has a root isn't empty
has_root : (roots : List ℕ) (root : ℕ) → Contains roots root → roots ≢ []
has_root roots root there bare =
    let empty : Contains [] root = subst (λ l. Contains l root) bare there in
    omega (arith, empty.1)

abbrev HasSome : List ℕ → Type 0
HasSome roots = roots ≢ []

-- what stood at a place that is taken out doesn't matter
pub remove_set : (many : List (List ℕ)) (place : ℕ) (roots : List ℕ) →
    remove (set many place roots) place ≡ remove many place
remove_set [] place roots = refl
remove_set (first ∷ rest) zero roots = refl
remove_set (first ∷ rest) (suc place) roots =
    ap (λ more. first ∷ more) (remove_set rest place roots)

-- ---- the roots at the states

-- the state has these roots now, and each other state those that it had
abbrev Writes : RootsByState → RootsByState → ℕ → List ℕ → Type 0
Writes old new state roots =
    (each : ℕ) → roots_in new each ≡ cond (each == state) roots (roots_in old each)

unwraps : (b : Bool) (roots : List ℕ) (found : Option (List ℕ)) →
    unwrap_or (cond b (Some roots) found) [] ≡ cond b roots (unwrap_or found [])
unwraps true roots found = refl
unwraps false roots found = refl

unwraps_none : (b : Bool) (found : Option (List ℕ)) →
    unwrap_or (cond b None found) [] ≡ cond b [] (unwrap_or found [])
unwraps_none true found = refl
unwraps_none false found = refl

-- the state itself, and another
at_state : (old new : RootsByState) (state : ℕ) (roots : List ℕ) → Writes old new state roots →
    (each : ℕ) → each ≡ state → roots_in new each ≡ roots
at_state old new state roots writes each is =
    writes each ∙ ap (λ b. cond b roots (roots_in old each)) (eq-eqb each state is)

at_other : (old new : RootsByState) (state : ℕ) (roots : List ℕ) → Writes old new state roots →
    (each : ℕ) → (each ≡ state → ⊥) → roots_in new each ≡ roots_in old each
at_other old new state roots writes each apart =
    writes each ∙ ap (λ b. cond b roots (roots_in old each)) (ne_eqb each state apart)

-- a state is this one or not
is_or_not : (each state : ℕ) → (each ≡ state) ⊎ (each ≡ state → ⊥)
is_or_not each state = by (each == state) refl
  where
    by : (b : Bool) → (each == state) ≡ b → (each ≡ state) ⊎ (each ≡ state → ⊥)
    by true same = inl (eqb-true each state same)
    by false other = inr (λ is. true≢false (sym (eq-eqb each state is) ∙ other))

adds_at : (old new : RootsByState) (state root : ℕ) (roots : List ℕ) →
    Writes old new state roots → AddsRoot (roots_in old state) roots root →
    AddsAt old new state root
adds_at old new state root roots writes adds each other = elim (is_or_not each state) [
  | inl is ↦
      let now : roots_in new each ≡ roots = at_state old new state roots writes each is in
      let was : roots_in old state ≡ roots_in old each = ap (roots_in old) (sym is) in (
        (λ there. elim ((adds other).0 (subst (λ l. Contains l other) now there)) [
          | inl before ↦ inl (subst (λ l. Contains l other) was before)
          | inr same ↦ inr (is, same)
        ]),
        (λ which. subst (λ l. Contains l other) (sym now) ((adds other).1 (elim which [
          | inl before ↦ inl (subst (λ l. Contains l other) (sym was) before)
          | inr both ↦ inr both.1
        ]))),
      )
  | inr apart ↦
      let now : roots_in new each ≡ roots_in old each =
      at_other old new state roots writes each apart in (
        (λ there. inl (subst (λ l. Contains l other) now there)),
        (λ which. elim which [
          | inl before ↦ subst (λ l. Contains l other) (sym now) before
          | inr both ↦ absurd (apart both.0)
        ]),
      )
]

drops_at : (old new : RootsByState) (state root : ℕ) (roots : List ℕ) →
    Writes old new state roots → DropsRoot (roots_in old state) roots root →
    DropsAt old new state root
drops_at old new state root roots writes drops each other = elim (is_or_not each state) [
  | inl is ↦
      let now : roots_in new each ≡ roots = at_state old new state roots writes each is in
      let was : roots_in old state ≡ roots_in old each = ap (roots_in old) (sym is) in (
        (λ there.
            let both = (drops other).0 (subst (λ l. Contains l other) now there) in
            (subst (λ l. Contains l other) was both.0, (λ gone. both.1 gone.1))),
        (λ both. subst (λ l. Contains l other) (sym now) ((drops other).1
            (subst (λ l. Contains l other) (sym was) both.0, (λ same. both.1 (is, same))))),
      )
  | inr apart ↦
      let now : roots_in new each ≡ roots_in old each =
      at_other old new state roots writes each apart in (
        (λ there. (subst (λ l. Contains l other) now there, (λ gone. apart gone.0))),
        (λ both. subst (λ l. Contains l other) (sym now) both.0),
      )
]

-- no root is taken out where there is none
pub drops_none_at : (old : RootsByState) (state root : ℕ) → roots_in old state ≡ [] →
    DropsAt old old state root
drops_none_at old state root bare each other = (
  (λ there. (
    there,
    (λ gone.
        let empty : Contains [] other =
        subst (λ l. Contains l other) (ap (roots_in old) gone.0 ∙ bare) there in
        omega (arith, empty.1)),
  )),
  (λ both. both.0),
)

-- ---- the changes

module _ (states : List ℕ) (many : List (List ℕ)) (step : IsInStep states many) where
  -- what is found at the place of a state
  pub roots_found : (state place : ℕ) → slice_get states place ≡ Some state →
      roots_in (zip states many) state ≡ get_or many place []
  roots_found state place at =
      ap (λ (each : ℕ). roots_in (zip states many) each)
      (sym (get_or_from_slice_get states place state 0 at))
      ∙ ap (λ found. unwrap_or found [])
      (found_at states many place step.paired step.rising (slice_get_within states place state at))

  -- and where it has none
  pub roots_none : (state place : ℕ) → IsFree states state place →
      roots_in (zip states many) state ≡ []
  roots_none state place free =
      ap (λ found. unwrap_or found []) (absent states many state apart)
    where
      apart : (each : ℕ) → each < length states → get_or states each 0 ≢ state
      apart each within is = elim (side each place) [
        | inl below ↦ omega (arith, free.before each below, is)
        | inr from ↦ omega (arith, free.behind each from within, is)
      ]

  writes_set : (state place : ℕ) (roots : List ℕ) → slice_get states place ≡ Some state →
      Writes (zip states many) (zip states (set many place roots)) state roots
  writes_set state place roots at each =
      ap (λ found. unwrap_or found [])
      (set_at states many place roots each step.paired step.rising
      (slice_get_within states place state at))
      ∙ unwraps (each == get_or states place 0) roots (look states many each)
      ∙ ap (λ (key : ℕ). cond (each == key) roots (roots_in (zip states many) each))
      (get_or_from_slice_get states place state 0 at)

  writes_insert : (state place : ℕ) (roots : List ℕ) → IsFree states state place →
      Writes (zip states many) (zip (insert states place state) (insert many place roots))
      state roots
  writes_insert state place roots free each =
      ap (λ found. unwrap_or found [])
      (insert_at states many place state roots each step.paired free)
      ∙ unwraps (each == state) roots (look states many each)

  writes_remove : (state place : ℕ) → slice_get states place ≡ Some state →
      Writes (zip states many) (zip (remove states place) (remove many place)) state []
  writes_remove state place at each =
      ap (λ found. unwrap_or found [])
      (remove_at states many place each step.paired step.rising
      (slice_get_within states place state at))
      ∙ unwraps_none (each == get_or states place 0) (look states many each)
      ∙ ap (λ (key : ℕ). cond (each == key) [] (roots_in (zip states many) each))
      (get_or_from_slice_get states place state 0 at)

  -- a root was added to those of its state
  pub added_at : (new : List (List ℕ)) (state place root : ℕ) →
      slice_get states place ≡ Some state →
      Rewrites many new place (λ before after. AddsRoot before after root) →
      AddsAt (zip states many) (zip states new) state root
  added_at new state place root at changed =
      subst (λ (all : List (List ℕ)). AddsAt (zip states many) (zip states all) state root)
      (sym changed.set)
      (adds_at (zip states many) (zip states (set many place changed.roots)) state root
      changed.roots (writes_set state place changed.roots at)
      (subst (λ l. AddsRoot l changed.roots root) (sym (roots_found state place at))
      changed.changes))

  -- or taken out of them
  pub dropped_at : (new : List (List ℕ)) (state place root : ℕ) →
      slice_get states place ≡ Some state →
      Rewrites many new place (λ before after. DropsRoot before after root) →
      DropsAt (zip states many) (zip states new) state root
  dropped_at new state place root at changed =
      subst (λ (all : List (List ℕ)). DropsAt (zip states many) (zip states all) state root)
      (sym changed.set)
      (drops_at (zip states many) (zip states (set many place changed.roots)) state root
      changed.roots (writes_set state place changed.roots at)
      (subst (λ l. DropsRoot l changed.roots root) (sym (roots_found state place at))
      changed.changes))

  -- a state was put between the others with a root
  pub inserted_at : (state place root : ℕ) (roots : List ℕ) → IsFree states state place →
      AddsRoot [] roots root →
      AddsAt (zip states many) (zip (insert states place state) (insert many place roots))
      state root
  inserted_at state place root roots free single =
      adds_at (zip states many) (zip (insert states place state) (insert many place roots))
      state root roots (writes_insert state place roots free)
      (subst (λ l. AddsRoot l roots root) (sym (roots_none state place free)) single)

  -- a state was taken out with its last root
  pub removed_at : (new : List (List ℕ)) (state place root : ℕ) →
      slice_get states place ≡ Some state →
      Rewrites many new place (λ before after. DropsRoot before after root) →
      get_or new place [] ≡ [] →
      DropsAt (zip states many) (zip (remove states place) (remove new place)) state root
  removed_at new state place root at changed bare =
      subst (λ (all : List (List ℕ)). DropsAt (zip states many)
      (zip (remove states place) all) state root)
      (sym (ap (λ (all : List (List ℕ)). remove all place) changed.set
      ∙ remove_set many place changed.roots))
      (drops_at (zip states many) (zip (remove states place) (remove many place)) state root []
      (writes_remove state place at)
      (subst (λ l. DropsRoot l [] root) (sym (roots_found state place at))
      (subst (λ l. DropsRoot (get_or many place []) l root) (sym no_roots ∙ bare)
      changed.changes)))
    where
      inside : place < length many
      inside = omega (arith, step.paired, slice_get_within states place state at)

      no_roots : get_or new place [] ≡ changed.roots
      no_roots = ap (λ (all : List (List ℕ)). get_or all place []) changed.set
          ∙ get_or-set_same many place changed.roots [] inside

  -- ---- what is kept so

  pub step_added : (new : List (List ℕ)) (place root : ℕ) →
      Rewrites many new place (λ before after. AddsRoot before after root) →
      IsInStep states new
  step_added new place root changed = record {
    paired = ap length changed.set ∙ length-set many place changed.roots ∙ step.paired;
    rising = step.rising;
    some = subst (All HasSome) (sym changed.set)
        (All-set HasSome many place changed.roots
        (has_root changed.roots root ((changed.changes root).1 (inr refl))) step.some);
  }

  pub step_dropped : (new : List (List ℕ)) (place root : ℕ) →
      Rewrites many new place (λ before after. DropsRoot before after root) →
      place < length many → get_or new place [] ≢ [] → IsInStep states new
  step_dropped new place root changed within left = record {
    paired = ap length changed.set ∙ length-set many place changed.roots ∙ step.paired;
    rising = step.rising;
    some = subst (All HasSome) (sym changed.set)
        (All-set HasSome many place changed.roots
        (λ bare. left (ap (λ (all : List (List ℕ)). get_or all place []) changed.set
        ∙ get_or-set_same many place changed.roots [] within ∙ bare)) step.some);
  }

  pub step_inserted : (state place root : ℕ) (roots : List ℕ) → IsFree states state place →
      AddsRoot [] roots root →
      IsInStep (insert states place state) (insert many place roots)
  step_inserted state place root roots free single = record {
    paired = omega (
      arith,
      step.paired,
      length-insert many place roots (omega (arith, step.paired, free.within)),
      length-insert states place state free.within,
    );
    rising = rising_insert states state place step.rising free;
    some = All-append HasSome _ _ (All-take HasSome place many step.some)
        (All-cons HasSome roots _ (has_root roots root ((single root).1 (inr refl)))
        (All-drop HasSome place many step.some));
  }

  pub step_removed : (place : ℕ) → place < length states →
      IsInStep (remove states place) (remove many place)
  step_removed place within = record {
    paired = omega (
      arith,
      step.paired,
      length-remove many place (omega (arith, step.paired, within)),
      length-remove states place within,
    );
    rising = all_pairs_remove (λ (first second : ℕ). first < second) states place within step.rising;
    some = All-append HasSome _ _ (All-take HasSome place many step.some)
        (All-drop HasSome (suc place) many step.some);
  }

  -- a state is there exactly where it has roots
  pub has_roots : (state : ℕ) →
      Contains states state ↔ (roots_in (zip states many) state ≢ [])
  has_roots state = (
    (λ there bare. step.some there.0 [] (omega (arith, step.paired, there.1))
        (sym (ap (λ found. unwrap_or found [])
        (found_at states many there.0 step.paired step.rising there.1))
        ∙ ap (λ (each : ℕ). roots_in (zip states many) each)
        (default there.0 there.1 ∙ there.2) ∙ bare)),
    (λ some. elim (is_there states state) [
      | inl there ↦ there
      | inr none ↦ absurd (some (ap (λ found. unwrap_or found [])
          (absent states many state (λ each within is. none
          (each, within, default_to states each state within ∙ is)))))
    ]),
  )
    where
      default : (place : ℕ) → place < length states →
          get_or states place 0 ≡ get_or states place state
      default place within = sym (default_to states place state within)
