-- The greatest value of the final states of a vertex, by those that were seen.
use Rattle.std.proofs.Common.{◌≡◌, ◌==◌, ◌⊎◌, inl, inr, ◌≤◌, ℕ, zero, suc, Bool, true, false, List, [], ◌∷◌, map, max, Option, None, Some, refl, sym, ap, subst, ◌∙◌, Contains, true≢false, eq-eqb, arith}
use Rattle.std.specs.Prelude.{⊤}
use Rattle.std.proofs.lemmas.Bool.{eqb-true}
use Rattle.delta_tree.specs.Nodes.{TreeValue, node_id, value_of}
use Rattle.delta_tree.proofs.Ids.{none_or_some, some_is_one}
use Rattle.tree_insert.proofs.Members.{contains_head, contains_tail, contains_cases, contains_none}
use Rattle.source_tree.specs.Ends.{greatest, later}

-- ---- what covers the final states

-- the one number is at most the other, where it is there
abbrev pub IsAtMost : Option ℕ → Option ℕ → Type 0
IsAtMost None end = ⊤
IsAtMost (Some value) None = ⊥
IsAtMost (Some value) (Some end) = value ≤ end

-- the end is the value of a final state, where it is there, and at least that of each final state
-- that was seen
pub record Covers (finals : List ℕ) (values : ℕ → Option ℕ) (Seen : ℕ → Type 0)
    (end : Option ℕ) : Type 0 where
  pub from : (value : ℕ) → end ≡ Some value →
      (state : ℕ) × Contains finals state × (values state ≡ Some value)
  pub most : (state : ℕ) → Contains finals state → Seen state → IsAtMost (values state) end

-- the values of a vertex by its states
abbrev pub values_at : TreeValue → ℕ → ℕ → Option ℕ
values_at tree vertex state = value_of tree (node_id vertex state)

-- ---- numbers that may be there

at_most_itself : (end : Option ℕ) → IsAtMost end end
at_most_itself None = tt
at_most_itself (Some end) = omega arith

later_left : (first second : Option ℕ) → IsAtMost first (later first second)
later_left None second = tt
later_left (Some first) None = omega arith
later_left (Some first) (Some second) =
    let high : first ≤ max first second = omega arith in
    high

later_right : (first second : Option ℕ) → IsAtMost second (later first second)
later_right None second = at_most_itself second
later_right (Some first) None = tt
later_right (Some first) (Some second) =
    let high : second ≤ max first second = omega arith in
    high

at_most_all : (first second third : Option ℕ) → IsAtMost first second → IsAtMost second third →
    IsAtMost first third
at_most_all None second third low high = tt
at_most_all (Some first) None third low high = absurd low
at_most_all (Some first) (Some second) None low high = absurd high
at_most_all (Some first) (Some second) (Some third) low high = omega (arith, low, high)

at_most_both : (first second : Option ℕ) → IsAtMost first second → IsAtMost second first →
    first ≡ second
at_most_both None None low high = refl
at_most_both None (Some second) low high = absurd high
at_most_both (Some first) None low high = absurd low
at_most_both (Some first) (Some second) low high =
    let same : first ≡ second = omega (arith, low, high) in
    ap Some same

-- the greater of two is one of them
later_from : (first second : Option ℕ) (value : ℕ) → later first second ≡ Some value →
    (first ≡ Some value) ⊎ (second ≡ Some value)
later_from None second value is = inr is
later_from (Some first) None value is = inl is
later_from (Some first) (Some second) value is =
    elim (one first second) [
      | inl left ↦ inl (ap Some (sym left ∙ some_is_one (max first second) value is))
      | inr right ↦ inr (ap Some (sym right ∙ some_is_one (max first second) value is))
    ]
  where
    side : (a b : ℕ) → (a ≤ b) ⊎ (b ≤ a)
    side zero b = inl (omega arith)
    side (suc a) zero = inr (omega arith)
    side (suc a) (suc b) = elim (side a b) [
      | inl low ↦ inl (omega (arith, low))
      | inr high ↦ inr (omega (arith, high))
    ]

    one : (a b : ℕ) → (max a b ≡ a) ⊎ (max a b ≡ b)
    one a b = elim (side a b) [
      | inl low ↦
          let is_b : max a b ≡ b = omega (arith, low) in
          inr is_b
      | inr high ↦
          let is_a : max a b ≡ a = omega (arith, high) in
          inl is_a
    ]

-- ---- members

-- a number is in a list or not
pub is_in : (numbers : List ℕ) (number : ℕ) →
    Contains numbers number ⊎ (Contains numbers number → ⊥)
is_in [] number = inr (contains_none number)
is_in (first ∷ rest) number = by (is_in rest number) (first == number) refl
  where
    by : Contains rest number ⊎ (Contains rest number → ⊥) → (b : Bool) → (first == number) ≡ b →
        Contains (first ∷ rest) number ⊎ (Contains (first ∷ rest) number → ⊥)
    by further true is = inl (subst (Contains (first ∷ rest)) (eqb-true first number is)
        (contains_head first rest))
    by further false other = elim further [
      | inl there ↦ inl (contains_tail first rest number there)
      | inr none ↦ inr (λ there. elim (contains_cases first rest number there) [
        | inl is ↦ true≢false (sym (eq-eqb first number is) ∙ other)
        | inr more ↦ none more
      ])
    ]

-- ---- the greatest value

-- the greatest of the values of all final states
pub greatest_most : (finals : List ℕ) (values : ℕ → Option ℕ) (state : ℕ) → Contains finals state →
    IsAtMost (values state) (greatest (map values finals))
greatest_most [] values state final = absurd (contains_none state final)
greatest_most (first ∷ rest) values state final =
    let further = greatest (map values rest) in
    elim (contains_cases first rest state final) [
      | inl is ↦ subst (λ each. IsAtMost (values each) (later (values first) further)) is
          (later_left (values first) further)
      | inr more ↦ at_most_all (values state) further (later (values first) further)
          (greatest_most rest values state more) (later_right (values first) further)
    ]

pub greatest_from : (finals : List ℕ) (values : ℕ → Option ℕ) (value : ℕ) →
    greatest (map values finals) ≡ Some value →
    (state : ℕ) × Contains finals state × (values state ≡ Some value)
greatest_from [] values value is = absurd (none_or_some value is)
greatest_from (first ∷ rest) values value is =
    elim (later_from (values first) (greatest (map values rest)) value is) [
      | inl here ↦ (first, contains_head first rest, here)
      | inr more ↦
          let found = greatest_from rest values value more in
          (found.0, contains_tail first rest found.0 found.1, found.2)
    ]

module _ (finals : List ℕ) (values : ℕ → Option ℕ) where
  -- where each final state with a value was seen
  pub covers_all : (Seen : ℕ → Type 0) (end : Option ℕ) → Covers finals values Seen end →
      ((state : ℕ) → Contains finals state → Seen state ⊎ (values state ≡ None)) →
      end ≡ greatest (map values finals)
  covers_all Seen end covers all = at_most_both end (greatest (map values finals))
      (low end refl) (high (greatest (map values finals)) refl)
    where
      low : (found : Option ℕ) → end ≡ found → IsAtMost found (greatest (map values finals))
      low None is = tt
      low (Some value) is =
          let from = covers.from value is in
          subst (λ each. IsAtMost each (greatest (map values finals))) from.2
          (greatest_most finals values from.0 from.1)

      high : (found : Option ℕ) → greatest (map values finals) ≡ found → IsAtMost found end
      high None is = tt
      high (Some value) is =
          let from = greatest_from finals values value is in
          subst (λ each. IsAtMost each end) from.2 (elim (all from.0 from.1) [
            | inl seen ↦ covers.most from.0 from.1 seen
            | inr none ↦ subst (λ each. IsAtMost each end) (sym none) tt
          ])
