use Rattle.index_laws.proofs.Index.{index_keeps_bests}
use Rattle.index_laws.proofs.laws.index_keeps_bests.Goals as goal

pub returns : goal.returns
returns c = index_keeps_bests
