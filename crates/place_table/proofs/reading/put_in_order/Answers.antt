use Rattle.std.proofs.Common.{List, ℕ, subst, sym, Contains}
use Rattle.std.specs.Ordering.{nat_cmp}
use Rattle.std.specs.List.Sorted.{IsStrictlySortedBy}
use Rattle.std.proofs.lemmas.List.Filters.{dedup_is}
use Rattle.std.proofs.lemmas.List.Kept.{Contains-dedup_nat, Contains-from_dedup}
use Rattle.std.proofs.lemmas.List.Sorted.{Contains-permutation, IsPermutation-sym}
use Rattle.std.proofs.lemmas.Map.Keys.{IsStrictlyIncreasing-dedup, sorted_from_strictly_increasing}
use Rattle.place_table.proofs.reading.put_in_order.Goals as goal

pub returns : goal.returns
returns c =
    let is = dedup_is _ _ _ c.dedup.ensures.filtered in
    let moved = c.sort_unstable.ensures.permutation in
    record {
      rising = subst (λ (numbers : List ℕ). IsStrictlySortedBy nat_cmp numbers) (sym is)
          (sorted_from_strictly_increasing _
          (IsStrictlyIncreasing-dedup _ c.sort_unstable.ensures.sorted));
      exact = λ number. (
        (λ member. Contains-permutation _ _ number (IsPermutation-sym _ _ moved)
            (Contains-from_dedup _ _ number
            (subst (λ (numbers : List ℕ). Contains numbers number) is member))),
        (λ member. subst (λ (numbers : List ℕ). Contains numbers number) (sym is)
            (Contains-dedup_nat _ number (Contains-permutation _ _ number moved member))),
      );
    }
