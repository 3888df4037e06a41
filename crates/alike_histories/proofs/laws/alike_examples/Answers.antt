use Rattle.alike_histories.proofs.Examples.{alike_examples}
use Rattle.alike_histories.proofs.laws.alike_examples.Goals as goal

pub returns : goal.returns
returns c = alike_examples
