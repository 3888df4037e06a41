use Rattle.dfa_build.proofs.SetMembers.{has_and}
use Rattle.dfa_build.proofs.position_set.PositionSet.intersection.Goals as goal

pub returns : goal.returns
returns c = has_and c.args.self.bits c.args.other.bits
