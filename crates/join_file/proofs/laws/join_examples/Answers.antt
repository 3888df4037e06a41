use Rattle.join_file.proofs.Examples.{join_examples}
use Rattle.join_file.proofs.laws.join_examples.Goals as goal

pub returns : goal.returns
returns c = join_examples
