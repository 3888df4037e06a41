use Rattle.dfa_build.proofs.Sets.{has_or}
use Rattle.dfa_build.proofs.position_set.PositionSet.union.Goals as goal

pub returns : goal.returns
returns c = has_or c.args.self.bits c.args.other.bits
