-- The nodes of level 0, node by node.
use Rattle.std.proofs.Common.{◌≡◌, ℕ, ◌+◌, ◌<◌, true, false, List, [], ◌∷◌, ◌++◌, Option, Some, None, nat_eq, sym, ap, ◌∙◌, subst, ⊎_elim, inl, inr, arith, Contains}
use Rattle.std.specs.Option.{option_eq}
use Rattle.std.specs.Prelude.{◌↔◌}
use Rattle.std.proofs.lemmas.Bool.{cases_eq, eqb-true, false≢true}
use Rattle.state_pairs.specs.Goals.{level_at}
use Rattle.state_pairs.proofs.Marks.{contains_more}

-- the nodes of level 0 below a node
abbrev AreZeros : List (Option ℕ) → ℕ → List ℕ → Type 0
AreZeros levels index nodes = (node : ℕ) → Contains nodes node ↔ ((node < index) × (level_at levels node ≡ Some 0))

is_zero : (level : Option ℕ) → option_eq nat_eq level (Some 0) ≡ true → level ≡ Some 0
is_zero None same = absurd (false≢true same)
is_zero (Some level) same = ap (λ (n : ℕ). Some n) (eqb-true level 0 same)

pub zero_added : (levels : List (Option ℕ)) (nodes after : List ℕ) (index : ℕ) → AreZeros levels index nodes → after ≡ nodes ++ index ∷ [] →
    option_eq nat_eq (level_at levels index) (Some 0) ≡ true → AreZeros levels (index + 1) after
zero_added levels nodes after index are pushed same node =
    subst (λ (all : List ℕ). Contains all node ↔ ((node < index + 1) × (level_at levels node ≡ Some 0))) (sym pushed) (
      (λ has. ⊎_elim
          (λ old. let both = (are node).0 old in (omega (arith, both.0), both.1))
          (λ is. (omega (arith, is), ap (level_at levels) is ∙ is_zero (level_at levels index) same))
          ((contains_more nodes index node).1 has)),
      (λ both. (contains_more nodes index node).0 (⊎_elim
          (λ is. inr is)
          (λ differ. inl ((are node).1 (omega (arith, both.0, differ), both.1)))
          (cases_eq node index))),
    )

pub zero_passed : (levels : List (Option ℕ)) (nodes : List ℕ) (index : ℕ) → AreZeros levels index nodes →
    option_eq nat_eq (level_at levels index) (Some 0) ≡ false → AreZeros levels (index + 1) nodes
zero_passed levels nodes index are other node = (
  (λ has. let both = (are node).0 has in (omega (arith, both.0), both.1)),
  (λ both. ⊎_elim
      (λ is. absurd (false≢true (sym other ∙ ap (λ (level : Option ℕ). option_eq nat_eq level (Some 0)) (sym (ap (level_at levels) is) ∙ both.1))))
      (λ differ. (are node).1 (omega (arith, both.0, differ), both.1))
      (cases_eq node index)),
)
