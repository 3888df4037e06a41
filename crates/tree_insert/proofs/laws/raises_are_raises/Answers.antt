use Rattle.tree_insert.proofs.Expiry.{raises_are_raises}
use Rattle.tree_insert.proofs.laws.raises_are_raises.Goals as goal

pub returns : goal.returns
returns c = raises_are_raises
