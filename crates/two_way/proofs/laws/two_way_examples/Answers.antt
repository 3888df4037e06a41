use Rattle.two_way.proofs.Examples.{examples}
use Rattle.two_way.proofs.laws.two_way_examples.Goals as goal

pub returns : goal.returns
returns c = examples
