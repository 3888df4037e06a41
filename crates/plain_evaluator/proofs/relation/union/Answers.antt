use Rattle.std.proofs.Common.{◌≡◌, Vec, Global, ◌⊎◌}
use Rattle.std.specs.Prelude.{Contains}
use Rattle.std.specs.List.Sorted.{IsStrictlySortedBy}
use Rattle.rpq_base.specs.Order.{pair_cmp}
use Rattle.rpq_base.specs.declared.data.Pair.{Pair}
use Rattle.rpq_model.specs.Relations.{AreExactly}
use Rattle.rpq_base.proofs.Outcomes.{ok_from_both}
use Rattle.rpq_model.proofs.Composing.{exactly_from_set, first_added, then_added}
use Rattle.plain_evaluator.proofs.relation.union.Goals as goal

pub returns : goal.returns
returns c =
    let pairs = c.args.pairs.now in
    let others = c.args.others.now in
    let first = first_added (Contains pairs) c.new-found.result.keys c.add_all.new.found.keys c.new-found.ensures.empty c.in_ok-add_all.ensures in
    let members = then_added (Contains pairs) (Contains others) c.add_all.new.found.keys c.add_all-2.new.found.keys first c.in_ok-add_all-2.ensures in
    let all : Pair → Type 0 = λ pair. Contains pairs pair ⊎ Contains others pair in
    ok_from_both c.in_order.result
    (λ (all : Vec Pair Global). all.items ≡ c.add_all-2.new.found.keys)
    (λ (all : Vec Pair Global). IsStrictlySortedBy pair_cmp all.items)
    (λ (found : Vec Pair Global). AreExactly all found.items)
    (λ found is sorted. exactly_from_set all c.add_all-2.new.found.keys found.items members is sorted)
    c.in_order.ensures.pairs c.in_order.ensures.sorted
