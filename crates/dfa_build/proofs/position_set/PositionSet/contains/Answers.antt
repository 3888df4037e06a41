use Rattle.dfa_build.proofs.Sets.{has_read}
use Rattle.dfa_build.proofs.position_set.PositionSet.contains.Goals as goal

pub returns : goal.returns
returns c = has_read c.args.self.bits c.args.position
