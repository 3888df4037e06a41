use Rattle.std.proofs.Common.{◌≡◌, ◌+◌, ℕ, List, take, Vec, Global, sym, subst}
use Rattle.std.specs.Prelude.{◌↔◌, Contains}
use Rattle.std.specs.List.Sorted.{IsStrictlySortedBy}
use Rattle.std.proofs.lemmas.List.{take_all}
use Rattle.rpq_base.specs.Order.{pair_cmp}
use Rattle.rpq_base.specs.declared.data.Pair.{Pair}
use Rattle.rpq_model.specs.Relations.{targets, AreExactly, IsReached}
use Rattle.rpq_base.proofs.Members.{next_one}
use Rattle.rpq_base.proofs.Outcomes.{ok_from_both}
use Rattle.rpq_model.proofs.Composing.{exactly_from_set, first_added, in_turn}
use Rattle.rpq_model.proofs.Closing.{IsReachedOver, reached_at_first, reached_more, reached_at_last}
use Rattle.plain_evaluator.proofs.closure.closure.Goals as goal

pub loop-vertex-init : goal.loop-vertex-init
loop-vertex-init c =
    let pairs = c.args.pairs.now in
    let first = first_added (Contains pairs) c.new-reached.result.keys c.add_all.new.found.keys c.new-reached.ensures.empty c.in_ok-add_all.ensures in
    λ pair. in_turn (first pair) (reached_at_first pairs pair)

pub loop-vertex-preserved : goal.loop-vertex-preserved
loop-vertex-preserved c =
    let pairs = c.args.pairs.now in
    let vertices = c.deref-vertex-items.result.now in
    let index = c.loop-vertex.vertex-index in
    let vertex = c.vertex-item.result in
    reached_more pairs (take index vertices) vertex (take (index + 1) vertices) c.loop-vertex.reached.keys c.add_over.new.reached.keys
    (next_one vertices index vertex c.loop-vertex-test.true c.vertex-item.is) c.loop-vertex.invariant c.in_ok-add_over.ensures

pub returns : goal.returns
returns c =
    let pairs = c.args.pairs.now in
    let vertices = c.deref-vertex-items.result.now in
    let found = c.loop-vertex.reached.keys in
    let over : (pair : Pair) → Contains found pair ↔ IsReachedOver pairs vertices pair =
    subst (λ (firsts : List (List ℕ)). (pair : Pair) → Contains found pair ↔ IsReachedOver pairs firsts pair)
    (take_all c.loop-vertex.vertex-index vertices c.loop-vertex-test.false) c.loop-vertex.invariant in
    let all_of_them : (vertex : List ℕ) → Contains vertices vertex ↔ Contains (targets pairs) vertex =
    subst (λ (all : List (List ℕ)). (vertex : List ℕ) → Contains all vertex ↔ Contains
    (targets pairs) vertex) (sym c.deref-vertex-items.ensures.value) c.in_ok-vertices.ensures in
    let members : (pair : Pair) → Contains found pair ↔ IsReached pairs pair = λ pair. in_turn
    (over pair) (reached_at_last pairs vertices all_of_them pair) in
    ok_from_both c.in_order.result
    (λ (pairs : Vec Pair Global). pairs.items ≡ found)
    (λ (pairs : Vec Pair Global). IsStrictlySortedBy pair_cmp pairs.items)
    (λ (all : Vec Pair Global). AreExactly (IsReached pairs) all.items)
    (λ all is sorted. exactly_from_set (IsReached pairs) found all.items members is sorted)
    c.in_order.ensures.pairs c.in_order.ensures.sorted
