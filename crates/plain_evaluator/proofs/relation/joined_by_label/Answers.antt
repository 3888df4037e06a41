use Rattle.std.proofs.Common.{◌≡◌, List, [], ◌∷◌, fold, Bor, Vec, Global, sym, ap, ◌∙◌}
use Rattle.std.specs.List.Sorted.{IsStrictlySortedBy}
use Rattle.std.proofs.lemmas.List.{take_all}
use Rattle.std.proofs.lemmas.List.Folds.{fold-map}
use Rattle.rpq_base.specs.Order.{pair_cmp}
use Rattle.rpq_base.specs.declared.data.Edge.{Edge}
use Rattle.rpq_base.specs.declared.data.Pair.{Pair}
use Rattle.rpq_model.specs.declared.mode.Mode.TheVariants.{Arbitrary}
use Rattle.rpq_model.specs.Answers.{IsJoinedBy}
use Rattle.rpq_model.specs.Relations.{values, AreExactly}
use Rattle.rpq_model.proofs.ByLabel.{edges_join}
use Rattle.rpq_base.proofs.Outcomes.{ok_from_both}
use Rattle.rpq_model.proofs.Composing.{with_edge, exactly_from_set}
use Rattle.plain_evaluator.proofs.relation.joined_by_label.Goals as goal

pub returns : goal.returns
returns c =
    let label = c.args.label.now in
    let edges = c.args.edges.now in
    let found = c.loop-edge.found.keys in
    let all : found ≡ fold (with_edge label) [] (values edges) =
    c.loop-edge.invariant
    ∙ (ap (λ (some : List (Bor Edge)). fold (λ found edge. with_edge label found edge.now) [] some)
    (take_all c.loop-edge.edge-index edges c.loop-edge-test.false)
    ∙ sym (fold-map (with_edge label) (λ (edge : Bor Edge). edge.now) [] edges)) in
    let joined : Pair → Type 0 = IsJoinedBy (values edges) (λ word. word ≡ label ∷ []) Arbitrary in
    ok_from_both c.in_order.result
    (λ (pairs : Vec Pair Global). pairs.items ≡ found)
    (λ (pairs : Vec Pair Global). IsStrictlySortedBy pair_cmp pairs.items)
    (λ (pairs : Vec Pair Global). AreExactly joined pairs.items)
    (λ pairs is sorted. exactly_from_set joined found pairs.items (edges_join (values edges) label found all) is sorted)
    c.in_order.ensures.pairs c.in_order.ensures.sorted
