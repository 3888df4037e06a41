use Rattle.ask_text.proofs.Examples.{ended_examples}
use Rattle.ask_text.proofs.laws.ended_examples.Goals as goal

pub returns : goal.returns
returns c = ended_examples
