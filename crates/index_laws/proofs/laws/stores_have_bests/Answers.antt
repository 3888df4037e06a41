use Rattle.index_laws.proofs.Bests.{stores_have_bests}
use Rattle.index_laws.proofs.laws.stores_have_bests.Goals as goal

pub returns : goal.returns
returns c = stores_have_bests
