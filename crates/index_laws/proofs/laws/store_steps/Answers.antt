use Rattle.index_laws.proofs.Steps.{store_steps}
use Rattle.index_laws.proofs.laws.store_steps.Goals as goal

pub returns : goal.returns
returns c = store_steps
