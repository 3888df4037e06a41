use Rattle.dfa_build.proofs.Filling.{shares}
use Rattle.dfa_build.proofs.state_sets.meets.Goals as goal

pub returns : goal.returns
returns c = shares c.args.set c.args.other c.intersection.result c.is_empty.result c.intersection.ensures c.is_empty.ensures.empty c.is_empty.ensures.some
