use Rattle.std.proofs.Common.{◌≡◌, take, fold}
use Rattle.rpq_model.proofs.Composing.{with_one}
use Rattle.plain_evaluator.proofs.relation.add_all.Given as goal

-- the pairs so far are added
abbrev pub invariant-loop-pair : goal.invariant-loop-pair
invariant-loop-pair l = l.found.keys ≡ fold with_one l.fn.found.keys (take l.pair-index l.pairs)
