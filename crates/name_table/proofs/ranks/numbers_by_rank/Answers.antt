use Rattle.name_table.proofs.Ranking.{has_all}
use Rattle.name_table.proofs.ranks.numbers_by_rank.Goals as goal

pub returns : goal.returns
returns c =
    has_all c.args.count c.args.ranks.now c.in_ok-numbers.numbers.items c.invert.new.inverse.items
    c.requires.few c.requires.apart c.in_ok-numbers.ensures c.invert.ensures
