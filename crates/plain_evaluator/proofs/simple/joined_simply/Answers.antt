use Rattle.std.proofs.Common.{◌≡◌, ◌+◌, List, take, Bor, Vec, Global, subst}
use Rattle.std.specs.Prelude.{◌↔◌, Contains}
use Rattle.std.specs.List.Sorted.{IsStrictlySortedBy}
use Rattle.std.proofs.lemmas.List.{take_all}
use Rattle.rpq_base.specs.Order.{pair_cmp}
use Rattle.rpq_base.specs.declared.data.Edge.{Edge}
use Rattle.rpq_base.specs.declared.data.Pair.{Pair}
use Rattle.path_syntax.specs.Expression.{expression}
use Rattle.path_syntax.specs.Language.{In}
use Rattle.rpq_model.specs.declared.mode.Mode.TheVariants.{Simple}
use Rattle.rpq_model.specs.Answers.{IsJoinedBy}
use Rattle.rpq_model.specs.Relations.{values, AreExactly}
use Rattle.rpq_base.proofs.Members.{next_given}
use Rattle.rpq_base.proofs.Outcomes.{ok_from_both}
use Rattle.rpq_model.proofs.Composing.{exactly_from_set}
use Rattle.plain_evaluator.proofs.Onwards.{IsSimplyAlongOne, simply_more, simple_joined}
use Rattle.plain_evaluator.proofs.simple.joined_simply.Goals as goal

pub loop-edge-preserved : goal.loop-edge-preserved
loop-edge-preserved c =
    let edges = c.args.edges.now in
    let index = c.loop-edge.edge-index in
    simply_more (values edges) (In (expression c.args.expr.now)) (values (take index edges)) c.edge-item.result.now (values (take (index + 1) edges))
    c.loop-edge.found.keys c.add_simply_along.new.found.keys
    (next_given (λ (each : Bor Edge). each.now) edges index c.edge-item.result c.loop-edge-test.true c.edge-item.is)
    c.loop-edge.invariant c.in_ok-add_simply_along.ensures

pub returns : goal.returns
returns c =
    let edges = c.args.edges.now in
    let language = In (expression c.args.expr.now) in
    let found = c.loop-edge.found.keys in
    let joined : Pair → Type 0 = IsJoinedBy (values edges) language Simple in
    let members = simple_joined (values edges) language found
    (subst (λ (firsts : List (Bor Edge)). (pair : Pair) → Contains found pair ↔ IsSimplyAlongOne (values firsts) (values edges) language pair)
    (take_all c.loop-edge.edge-index edges c.loop-edge-test.false) c.loop-edge.invariant) in
    ok_from_both c.in_order.result
    (λ (pairs : Vec Pair Global). pairs.items ≡ found)
    (λ (pairs : Vec Pair Global). IsStrictlySortedBy pair_cmp pairs.items)
    (λ (pairs : Vec Pair Global). AreExactly joined pairs.items)
    (λ pairs is sorted. exactly_from_set joined found pairs.items members is sorted)
    c.in_order.ensures.pairs c.in_order.ensures.sorted
