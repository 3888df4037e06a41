use Rattle.std.proofs.Common.{◌≡◌, true, Vec, Global, ◌⊎◌}
use Rattle.std.specs.Prelude.{Contains}
use Rattle.std.specs.List.Sorted.{IsStrictlySortedBy}
use Rattle.rpq_base.specs.Order.{pair_cmp}
use Rattle.rpq_base.specs.declared.data.Pair.{Pair}
use Rattle.rpq_model.specs.Relations.{AreExactly, IsComposed}
use Rattle.rpq_base.proofs.Outcomes.{ok_from_both}
use Rattle.rpq_model.proofs.Composing.{exactly_from_set, first_added, then_added}
use Rattle.plain_evaluator.proofs.relation.composition.Goals as goal

pub returns : goal.returns
returns c =
    let firsts = c.args.firsts.now in
    let seconds = c.args.seconds.now in
    let both : Pair → Type 0 = λ pair. IsComposed firsts seconds pair in
    let alone : Pair → Type 0 = λ pair. (c.args.no_second ≡ true) × Contains firsts pair in
    let other : Pair → Type 0 = λ pair. (c.args.no_first ≡ true) × Contains seconds pair in
    let all : Pair → Type 0 = λ pair. (both pair ⊎ alone pair) ⊎ other pair in
    let first = first_added both c.new-found.result.keys c.add_composed.new.found.keys c.new-found.ensures.empty c.in_ok-add_composed.ensures in
    let second = then_added both alone c.add_composed.new.found.keys c.add_if.new.found.keys first c.in_ok-add_if.ensures in
    let members = then_added
    (λ (pair : Pair). both pair ⊎ alone pair) other c.add_if.new.found.keys c.add_if-2.new.found.keys second c.in_ok-add_if-2.ensures in
    ok_from_both c.in_order.result
    (λ (all : Vec Pair Global). all.items ≡ c.add_if-2.new.found.keys)
    (λ (all : Vec Pair Global). IsStrictlySortedBy pair_cmp all.items)
    (λ (found : Vec Pair Global). AreExactly all found.items)
    (λ found is sorted. exactly_from_set all c.add_if-2.new.found.keys found.items members is sorted)
    c.in_order.ensures.pairs c.in_order.ensures.sorted
