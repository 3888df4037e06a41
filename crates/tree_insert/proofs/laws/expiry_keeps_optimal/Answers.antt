use Rattle.tree_insert.proofs.Expiry.{expiry_keeps_optimal}
use Rattle.tree_insert.proofs.laws.expiry_keeps_optimal.Goals as goal

pub returns : goal.returns
returns c = expiry_keeps_optimal
