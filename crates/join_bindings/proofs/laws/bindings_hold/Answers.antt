use Rattle.join_bindings.proofs.Holding.{bindings_hold}
use Rattle.join_bindings.proofs.laws.bindings_hold.Goals as goal

pub returns : goal.returns
returns c = bindings_hold
