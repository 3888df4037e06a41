use Rattle.tree_insert.proofs.Bests.{best_is_settled}
use Rattle.tree_insert.proofs.laws.best_is_settled.Goals as goal

pub returns : goal.returns
returns c = best_is_settled
