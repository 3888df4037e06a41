use Rattle.index_laws.proofs.ByNumbers.{by_numbers_steps}
use Rattle.index_laws.proofs.laws.by_numbers_steps.Goals as goal

pub returns : goal.returns
returns c = by_numbers_steps
