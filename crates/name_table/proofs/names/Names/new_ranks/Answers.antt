use Rattle.std.proofs.Common.{◌≡◌, length, refl, rules, ap, sym, subst, arith}
use Rattle.std.specs.List.{IsDistinct}
use Rattle.std.specs.List.Sorted.{IsSorted}
use Rattle.std.specs.Ordering.{is_lt}
use Rattle.std.proofs.lemmas.Fn.{always_returns_same}
use Rattle.std.proofs.lemmas.Map.Entries.{length-keys_of}
use Rattle.std.proofs.lemmas.List.Sorted.{ranks_by}
use Rattle.std.proofs.lemmas.Result.{IfOk-weaker}
use Rattle.rpq_base.specs.Same.{same_name}
use Rattle.name_table.specs.Ranks.{AreApart, AreRanks, HasAll}
use Rattle.name_table.proofs.Ranking.{number_cmp, number_cmp_total, are_ranks, has_all_below, has_all_moved, ranks_apart}
use Rattle.name_table.proofs.names.Names.new_ranks.Goals as goal

pub numbers_by_rank-requires-clause-apart : goal.numbers_by_rank-requires-clause-apart
numbers_by_rank-requires-clause-apart c =
    subst AreApart (sym c.deref.ensures.value)
    (ranks_apart c.args.self.now c.self.inside.ranks.items
    (subst (IsDistinct same_name) c.self.view_is c.self.invariant.0.apart)
    (subst (λ names. AreRanks names c.self.inside.ranks.items) c.self.view_is c.self.invariant.1))

pub places_in-requires-clause-all : goal.places_in-requires-clause-all
places_in-requires-clause-all c =
    has_all_below _ (length c.deref-2.result.now) c.deref-2.result.now
    (subst (HasAll _) (sym c.deref-2.ensures.value)
    (has_all_moved _ c.in_ok-order.order.items c.sort_by.new.self.items c.in_ok-order.ensures c.sort_by.ensures.permutation))
    refl

pub returns : goal.returns
returns c =
    let names = c.args.self.now in
    let order = c.sort_by.new.self.items in
    let distinct : IsDistinct same_name names = subst (IsDistinct same_name) c.self.view_is c.self.invariant.0.apart in
    let moved = has_all_moved _ c.in_ok-order.order.items order c.in_ok-order.ensures c.sort_by.ensures.permutation in
    let long : length order ≡ length names =
    omega (arith, moved.long, c.len.ensures.len, ap length c.self.view_is, length-keys_of c.self.inside.names.entries) in
    let sorted : IsSorted (number_cmp names) order =
    c.in_ok-sort_by.ensures.sorted (λ first second. is_lt (number_cmp names first second))
    (ranks_by (number_cmp_total names) (λ number. number))
    (always_returns_same _ _ _ (λ a r f' k. search rules)) in
    IfOk-weaker c.places_in.result _ _
    (λ places are. are_ranks names c.deref-2.result.now places.items distinct
    (subst (HasAll (length names)) (sym c.deref-2.ensures.value) (has_all_below _ (length names) order moved long))
    (subst (IsSorted (number_cmp names)) (sym c.deref-2.ensures.value) sorted) are)
    c.places_in.ensures
