use Rattle.tuple_generator.proofs.Examples.{worked_tuples}
use Rattle.tuple_generator.proofs.laws.worked_tuples.Goals as goal

pub returns : goal.returns
returns c = worked_tuples
