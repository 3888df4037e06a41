use Rattle.std.proofs.Common.{◌≡◌, List, Bor, rules, subst}
use Rattle.std.specs.List.{dedup}
use Rattle.std.specs.List.Sorted.{IsPermutation}
use Rattle.std.proofs.lemmas.Fn.{dedup_same}
use Rattle.rpq_base.specs.declared.data.Edge.{Edge}
use Rattle.plain_evaluator.proofs.EachOnce.{same_value, distinct_are}
use Rattle.plain_evaluator.proofs.distinct.distinct_edges.Goals as goal

pub returns : goal.returns
returns c =
    let sorted = c.sort_by.new.self.items in
    let moved = subst (λ (edges : List (Bor Edge)). IsPermutation edges sorted) c.in_ok-distinct.ensures.items c.sort_by.ensures.permutation in
    let distinct = c.dedup_by.new.self.items in
    let is : distinct ≡ dedup same_value sorted =
    dedup_same _ same_value _ (λ x y b f' x' y' k. search rules) sorted distinct c.dedup_by.ensures.filtered in
    distinct_are c.args.edges.now sorted distinct moved is
