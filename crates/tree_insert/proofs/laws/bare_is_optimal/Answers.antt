use Rattle.tree_insert.proofs.Expiry.{bare_is_optimal}
use Rattle.tree_insert.proofs.laws.bare_is_optimal.Goals as goal

pub returns : goal.returns
returns c = bare_is_optimal
