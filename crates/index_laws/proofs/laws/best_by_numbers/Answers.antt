use Rattle.index_laws.proofs.Numbers.{best_by_numbers}
use Rattle.index_laws.proofs.laws.best_by_numbers.Goals as goal

pub returns : goal.returns
returns c = best_by_numbers
