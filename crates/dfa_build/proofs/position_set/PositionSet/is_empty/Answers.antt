use Rattle.dfa_build.proofs.SetMembers.{none_from_zero, some_from_bits}
use Rattle.dfa_build.proofs.position_set.PositionSet.is_empty.Goals as goal

pub returns-clause-empty : goal.returns-clause-empty
returns-clause-empty c = none_from_zero c.args.self

pub returns-clause-some : goal.returns-clause-some
returns-clause-some c = some_from_bits c.args.self
