use Rattle.query_file.proofs.Examples.{examples}
use Rattle.query_file.proofs.laws.line_examples.Goals as goal

pub returns : goal.returns
returns c = examples
