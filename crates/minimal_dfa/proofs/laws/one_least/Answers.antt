use Rattle.minimal_dfa.proofs.OneLeast.{one_least}
use Rattle.minimal_dfa.proofs.laws.one_least.Goals as goal

pub returns : goal.returns
returns c = one_least
