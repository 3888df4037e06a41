use Rattle.path_syntax.proofs.Examples.{examples}
use Rattle.path_syntax.proofs.grammar_laws.grammar_examples.Goals as goal

pub returns : goal.returns
returns c = examples
