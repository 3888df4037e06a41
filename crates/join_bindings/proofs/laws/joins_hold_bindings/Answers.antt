use Rattle.join_bindings.proofs.Histories.{joins_hold_bindings}
use Rattle.join_bindings.proofs.laws.joins_hold_bindings.Goals as goal

pub returns : goal.returns
returns c = joins_hold_bindings
