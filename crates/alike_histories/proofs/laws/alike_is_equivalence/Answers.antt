use Rattle.alike_histories.proofs.Alike.{alike_in_either_order, alike_by_the_middle}
use Rattle.alike_histories.proofs.laws.alike_is_equivalence.Goals as goal

pub returns-clause-order : goal.returns-clause-order
returns-clause-order c = alike_in_either_order

pub returns-clause-middle : goal.returns-clause-middle
returns-clause-middle c = alike_by_the_middle
