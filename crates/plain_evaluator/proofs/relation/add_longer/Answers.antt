use Rattle.std.proofs.Common.{List, fold, ap, ◌∙◌}
use Rattle.std.proofs.lemmas.List.{take_all}
use Rattle.rpq_base.specs.declared.data.Pair.{Pair}
use Rattle.rpq_model.proofs.Composing.{with_longer, longer_added}
use Rattle.plain_evaluator.proofs.relation.add_longer.Goals as goal

pub returns : goal.returns
returns c =
    let pairs = c.args.pairs.now in
    let first = c.args.first.now in
    let before = c.args.found.now.keys in
    longer_added pairs first before c.loop-pair.found.keys
    (c.loop-pair.invariant ∙ ap (λ (all : List Pair). fold (with_longer first) before all)
    (take_all c.loop-pair.pair-index pairs c.loop-pair-test.false))
