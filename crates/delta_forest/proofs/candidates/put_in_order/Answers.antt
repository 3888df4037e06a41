use Rattle.std.proofs.Common.{List, ℕ, subst, sym, Contains, arith}
use Rattle.std.specs.Ordering.{nat_cmp}
use Rattle.std.specs.List.Sorted.{IsStrictlySortedBy}
use Rattle.std.proofs.lemmas.List.Filters.{dedup_is}
use Rattle.std.proofs.lemmas.List.Kept.{Contains-dedup_nat, Contains-from_dedup}
use Rattle.std.proofs.lemmas.List.Sorted.{Contains-permutation, IsPermutation-sym}
use Rattle.std.proofs.lemmas.Map.Keys.{IsStrictlyIncreasing-dedup, sorted_from_strictly_increasing}
use Rattle.delta_forest.proofs.Gathering.{few_in_order}
use Rattle.delta_forest.proofs.candidates.put_in_order.Goals as goal

pub returns-then-len-gt1 : goal.returns-then-len-gt1
returns-then-len-gt1 c =
    let is = dedup_is _ _ _ c.dedup.ensures.filtered in
    let moved = c.sort_unstable.ensures.permutation in
    record {
      sorted = subst (λ (roots : List ℕ). IsStrictlySortedBy nat_cmp roots) (sym is)
          (sorted_from_strictly_increasing _
          (IsStrictlyIncreasing-dedup _ c.sort_unstable.ensures.sorted));
      exact = λ root. (
        (λ member. Contains-permutation _ _ root (IsPermutation-sym _ _ moved)
            (Contains-from_dedup _ _ root
            (subst (λ (roots : List ℕ). Contains roots root) is member))),
        (λ member. subst (λ (roots : List ℕ). Contains roots root) (sym is)
            (Contains-dedup_nat _ root (Contains-permutation _ _ root moved member))),
      );
    }

pub returns-else-len-gt1 : goal.returns-else-len-gt1
returns-else-len-gt1 c =
    few_in_order c.args.roots.now.items (omega (arith, c.if-len-gt1.false, c.len.ensures))
