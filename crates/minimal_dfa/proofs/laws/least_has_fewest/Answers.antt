use Rattle.minimal_dfa.proofs.Fewest.{least_has_fewest}
use Rattle.minimal_dfa.proofs.laws.least_has_fewest.Goals as goal

pub returns : goal.returns
returns c = least_has_fewest
