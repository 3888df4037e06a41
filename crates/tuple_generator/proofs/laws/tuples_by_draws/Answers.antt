use Rattle.tuple_generator.proofs.Seeds.{tuples_by_draws}
use Rattle.tuple_generator.proofs.laws.tuples_by_draws.Goals as goal

pub returns : goal.returns
returns c = tuples_by_draws
