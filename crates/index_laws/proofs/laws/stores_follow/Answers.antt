use Rattle.index_laws.proofs.Following.{stores_follow}
use Rattle.index_laws.proofs.laws.stores_follow.Goals as goal

pub returns : goal.returns
returns c = stores_follow
