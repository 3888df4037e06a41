use Rattle.dfa_build.proofs.Sets.{has_none}
use Rattle.dfa_build.proofs.position_set.PositionSet.empty.Goals as goal

pub returns : goal.returns
returns c = has_none
