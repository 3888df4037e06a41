use Rattle.index_laws.proofs.Index.{index_tells_answers}
use Rattle.index_laws.proofs.laws.index_tells_answers.Goals as goal

pub returns : goal.returns
returns c = index_tells_answers
