use Rattle.tree_insert.proofs.Optimal.{raise_elsewhere_keeps_optimal}
use Rattle.tree_insert.proofs.laws.raise_elsewhere_keeps_optimal.Goals as goal

pub returns : goal.returns
returns c = raise_elsewhere_keeps_optimal
