use Rattle.history_model.proofs.Examples.{legal_examples}
use Rattle.history_model.proofs.legal_laws.legal_examples.Goals as goal

pub returns : goal.returns
returns c = legal_examples
