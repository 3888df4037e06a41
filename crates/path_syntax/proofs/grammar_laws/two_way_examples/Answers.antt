use Rattle.path_syntax.proofs.Examples.{two_way_examples}
use Rattle.path_syntax.proofs.grammar_laws.two_way_examples.Goals as goal

pub returns : goal.returns
returns c = two_way_examples
