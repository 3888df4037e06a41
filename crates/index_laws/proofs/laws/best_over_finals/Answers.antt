use Rattle.index_laws.proofs.Finals.{best_over_finals}
use Rattle.index_laws.proofs.laws.best_over_finals.Goals as goal

pub returns : goal.returns
returns c = best_over_finals
