use Rattle.index_laws.proofs.Until.{best_is_until}
use Rattle.index_laws.proofs.laws.best_is_until.Goals as goal

pub returns : goal.returns
returns c = best_is_until
