use Rattle.join_bindings.proofs.TextExamples.{text_examples}
use Rattle.join_bindings.proofs.laws.text_examples.Goals as goal

pub returns : goal.returns
returns c = text_examples
