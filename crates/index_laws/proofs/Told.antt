-- What can be told: whether something is so, and which are all of a kind.
use Rattle.std.proofs.Common.{◌≡◌, ℕ, zero, suc, ◌<◌, ◌≤◌, Bool, true, false, List, [], ◌∷◌, ◌++◌}
use Rattle.std.proofs.Common.{Option, Some, None, Decides, refl, sym, ap, subst, ◌⊎◌, inl, inr}
use Rattle.std.proofs.Common.{⊎_elim, arith}
use Rattle.std.specs.Prelude.{◌↔◌, Contains, ◌==◌}
use Rattle.std.proofs.lemmas.Bool.Decides.{Decides-and, Decides-eqb, Decides-like, not_from_Decides}
use Rattle.std.proofs.lemmas.List.Elements.{Contains-append_left, Contains-append_right}
use Rattle.std.proofs.lemmas.List.Elements.{Contains-append_cases}
use Rattle.rpq_base.specs.Same.{same_edge}
use Rattle.rpq_base.specs.declared.data.Edge.{Edge}
use Rattle.rpq_base.proofs.Equality.{edges}
use Rattle.rpq_base.proofs.Members.{cons_members, none_in}
use Rattle.edge_store.specs.Edges.{same_edge as same_id}
use Rattle.edge_store.specs.declared.edge.EdgeId.{EdgeId}
use Rattle.tree_insert.specs.Best.{IsAtLeast, IsGreatestOf}

-- ---- whether it is so

-- it is so, or not
abbrev pub OrNot : Type 0 → Type 0
OrNot A = A ⊎ (A → ⊥)

pub told_by : {A : Type 0} (test : Bool) → Decides test A → OrNot A
told_by true decides = inl (decides.0 refl)
told_by false decides = inr (not_from_Decides false decides refl)

pub either_or_not : {A B : Type 0} → OrNot A → OrNot B → OrNot (A ⊎ B)
either_or_not (inl a) second = inl (inl a)
either_or_not (inr never) (inl b) = inl (inr b)
either_or_not (inr never) (inr none) = inr (λ either. ⊎_elim never none either)

pub both_or_not : {A B : Type 0} → OrNot A → OrNot B → OrNot (A × B)
both_or_not (inl a) (inl b) = inl (a, b)
both_or_not (inl a) (inr none) = inr (λ both. none both.1)
both_or_not (inr never) second = inr (λ both. never both.0)

-- whether one of a list is of a kind
pub one_or_not : {X : Type 0} (xs : List X) (kind : X → Type 0) → ((x : X) → OrNot (kind x)) →
    OrNot ((x : X) × Contains xs x × kind x)
one_or_not [] kind told = inr (λ found. none_in found.0 found.1)
one_or_not (first ∷ rest) kind told = ⊎_elim
    (λ here. inl (first, (cons_members first rest first).1 (inl refl), here))
    (λ never. ⊎_elim
    (λ later. inl (later.0, (cons_members first rest later.0).1 (inr later.1), later.2))
    (λ none. inr (λ found. ⊎_elim
    (λ is. never (subst kind (sym is) found.2))
    (λ further. none (found.0, further, found.2))
    ((cons_members first rest found.0).0 found.1)))
    (one_or_not rest kind told))
    (told first)

-- whether numbers, edges and their numbers are equal
pub numbers_or_not : (first second : ℕ) → OrNot (first ≡ second)
numbers_or_not first second = told_by (first == second) (Decides-eqb first second)

pub edges_or_not : (first second : Edge) → OrNot (first ≡ second)
edges_or_not first second = told_by (same_edge first second) (edges first second)

pub same_id_decides : (first second : EdgeId) → Decides (same_id first second) (first ≡ second)
same_id_decides first second =
    let from = Decides-eqb first.from second.from in
    let label = Decides-eqb first.label second.label in
    let to = Decides-eqb first.to second.to in
    let half = Decides-and (first.label == second.label) (first.to == second.to) label to in
    Decides-like (same_id first second)
    (λ parts i. record { from = parts.0 i; label = parts.1.0 i; to = parts.1.1 i })
    (λ is. (
      ap (λ (id : EdgeId). id.from) is,
      (ap (λ (id : EdgeId). id.label) is, ap (λ (id : EdgeId). id.to) is),
    ))
    (Decides-and (first.from == second.from)
    (same_id (record { from = 0; label = first.label; to = first.to })
    (record { from = 0; label = second.label; to = second.to })) from half)

pub ids_or_not : (first second : EdgeId) → OrNot (first ≡ second)
ids_or_not first second = told_by (same_id first second) (same_id_decides first second)

-- whether a value reaches a number
pub reached_or_not : (value : Option ℕ) (number : ℕ) → OrNot (IsAtLeast number value)
reached_or_not None number = inr (λ reached. reached)
reached_or_not (Some value) number = at_most_or_not number value
  where
    at_most_or_not : (first second : ℕ) → OrNot (first ≤ second)
    at_most_or_not first second = grind arith

-- ---- all of a kind

-- a list has exactly those of the kind
abbrev pub IsListed : {X : Type 0} → (X → Type 0) → Type 0
IsListed {X} kind = (xs : List X) × ((x : X) → Contains xs x ↔ kind x)

pub none_listed : {X : Type 0} (kind : X → Type 0) → ((x : X) → kind x → ⊥) → IsListed kind
none_listed kind none = (
  [],
  λ x. ((λ member. absurd (none_in x member)), (λ is. absurd (none x is))),
)

pub same_listed : {X : Type 0} (kind other : X → Type 0) → ((x : X) → kind x ↔ other x) →
    IsListed kind → IsListed other
same_listed kind other alike listed = (
  listed.0,
  λ x. (
    (λ member. (alike x).0 ((listed.1 x).0 member)),
    (λ is. (listed.1 x).1 ((alike x).1 is)),
  ),
)

-- those of a kind, where something is so
pub listed_if : {X : Type 0} (kind : X → Type 0) (A : Type 0) → OrNot A → IsListed kind →
    IsListed (λ (x : X). A × kind x)
listed_if {X} kind A (inl is) listed =
    same_listed kind (λ (x : X). A × kind x) (λ x. ((λ has. (is, has)), (λ both. both.1))) listed
listed_if {X} kind A (inr never) listed =
    none_listed (λ (x : X). A × kind x) (λ x both. never both.0)

-- those of the kinds that each of a list has
pub each_listed : {X Y : Type 0} (xs : List X) (kind : X → Y → Type 0) →
    ((x : X) → IsListed (kind x)) → IsListed (λ (y : Y). (x : X) × Contains xs x × kind x y)
each_listed {X} {Y} [] kind listed =
    none_listed (λ (y : Y). (x : X) × Contains [] x × kind x y) (λ y found. none_in found.0 found.1)
each_listed (first ∷ rest) kind listed =
    let here = listed first in
    let further = each_listed rest kind listed in (
      here.0 ++ further.0,
      λ y. (
        (λ member. ⊎_elim
            (λ in_here. (first, (cons_members first rest first).1 (inl refl), (here.1 y).0 in_here))
            (λ later.
            let found = (further.1 y).0 later in
            (found.0, (cons_members first rest found.0).1 (inr found.1), found.2))
            (Contains-append_cases here.0 further.0 y member)),
        (λ found. ⊎_elim
            (λ is. Contains-append_left here.0 further.0 y
            ((here.1 y).1 (subst (λ each. kind each y) (sym is) found.2)))
            (λ later. Contains-append_right here.0 further.0 y
            ((further.1 y).1 (found.0, later, found.2)))
            ((cons_members first rest found.0).0 found.1)),
      ),
    )

-- the numbers below a bound
pub below_listed : (bound : ℕ) → IsListed (λ number. number < bound)
below_listed zero = none_listed (λ number. number < 0) (λ number less. omega (arith, less))
below_listed (suc bound) =
    let before = below_listed bound in (
      bound ∷ before.0,
      λ number. (
        (λ member. ⊎_elim
            (λ here. omega (arith, here))
            (λ later. let less = (before.1 number).0 later in omega (arith, less))
            ((cons_members bound before.0 number).0 member)),
        (λ less. (cons_members bound before.0 number).1 (⊎_elim
            (λ is. inl (sym is))
            (λ differ. inr ((before.1 number).1 (below_not_at number bound less differ)))
            (numbers_or_not number bound))),
      ),
    )
  where
    below_not_at : (number bound : ℕ) → number < suc bound → (number ≡ bound → ⊥) → number < bound
    below_not_at number bound less differ = grind (arith, less, differ)

-- ---- the greatest of a kind below a bound

pub greatest_below : (bound : ℕ) (kind : ℕ → Type 0) → ((number : ℕ) → OrNot (kind number)) →
    ((number : ℕ) → kind number → number ≤ bound) → (value : Option ℕ) × IsGreatestOf kind value
greatest_below zero kind told below = ⊎_elim
    (λ is. (Some 0, record { is = is; most = below }))
    (λ never. (
      None,
      λ number is.
          let same : number ≡ 0 = omega (arith, below number is) in never (subst kind same is),
    ))
    (told 0)
greatest_below (suc bound) kind told below = ⊎_elim
    (λ is. (Some (suc bound), record { is = is; most = below }))
    (λ never. greatest_below bound kind told (λ number is. ⊎_elim
    (λ same. absurd (never (subst kind same is)))
    (λ differ. at_most_not_at number bound (below number is) differ)
    (numbers_or_not number (suc bound))))
    (told (suc bound))
  where
    at_most_not_at : (number bound : ℕ) → number ≤ suc bound → (number ≡ suc bound → ⊥) →
        number ≤ bound
    at_most_not_at number bound le differ = grind (arith, le, differ)
