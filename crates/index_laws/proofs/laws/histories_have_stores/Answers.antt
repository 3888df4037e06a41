use Rattle.index_laws.proofs.Stores.{histories_have_stores}
use Rattle.index_laws.proofs.laws.histories_have_stores.Goals as goal

pub returns : goal.returns
returns c = histories_have_stores
