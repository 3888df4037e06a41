use Rattle.stream_tuples.proofs.Longest.{limit_examples}
use Rattle.stream_tuples.proofs.laws.limit_examples.Goals as goal

pub returns : goal.returns
returns c = limit_examples
