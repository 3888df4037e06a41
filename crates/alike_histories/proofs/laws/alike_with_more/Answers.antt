use Rattle.alike_histories.proofs.Alike.{alike_with_more}
use Rattle.alike_histories.proofs.BothWays.{alike_walked_with_more}
use Rattle.alike_histories.proofs.laws.alike_with_more.Goals as goal

pub returns-clause-plain : goal.returns-clause-plain
returns-clause-plain c = alike_with_more c.one_entry_more.ensures

pub returns-clause-walked : goal.returns-clause-walked
returns-clause-walked c = alike_walked_with_more c.one_entry_more.ensures
