use Rattle.std.proofs.Common.{◌+◌, sym, subst, arith}
use Rattle.name_table.specs.Ranks.{CountsUp}
use Rattle.name_table.proofs.Ranking.{counts_more}
use Rattle.name_table.proofs.ranks.numbers_below.Goals as goal

pub loop-number-preserved : goal.loop-number-preserved
loop-number-preserved c =
    subst (CountsUp (c.loop-number.number + 1)) (sym c.in_ok-push.ensures.items)
    (counts_more c.loop-number.number (c.loop-number.number + 1) c.loop-number.numbers.items (omega arith) c.loop-number.invariant)
