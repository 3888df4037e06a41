use Rattle.query_index.proofs.Bare.{reaches_nothing}
use Rattle.query_index.proofs.laws.bare_forests_reach_nothing.Goals as goal

pub returns : goal.returns
returns c = reaches_nothing
