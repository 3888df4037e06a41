use Rattle.std.proofs.Common.{◌≡◌, take, fold}
use Rattle.rpq_model.proofs.Composing.{with_longer}
use Rattle.plain_evaluator.proofs.relation.add_longer.Given as goal

-- what the pairs so far give is added
abbrev pub invariant-loop-pair : goal.invariant-loop-pair
invariant-loop-pair l = l.found.keys ≡ fold (with_longer l.first) l.fn.found.keys (take l.pair-index l.pairs)
