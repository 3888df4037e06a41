use Rattle.tuple_generator.proofs.Names.{generated_tuples_are_plain}
use Rattle.tuple_generator.proofs.laws.generated_tuples_are_plain.Goals as goal

pub returns : goal.returns
returns c = generated_tuples_are_plain
