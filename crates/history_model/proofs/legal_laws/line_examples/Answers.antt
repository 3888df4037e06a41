use Rattle.history_model.proofs.Examples.{line_examples}
use Rattle.history_model.proofs.legal_laws.line_examples.Goals as goal

pub returns : goal.returns
returns c = line_examples
