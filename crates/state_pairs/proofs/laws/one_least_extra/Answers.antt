use Rattle.state_pairs.proofs.Unique.{one_least_extra}
use Rattle.state_pairs.proofs.laws.one_least_extra.Goals as goal

pub returns : goal.returns
returns c = one_least_extra
