use Rattle.path_syntax.proofs.Examples.{faults}
use Rattle.path_syntax.proofs.grammar_laws.fault_examples.Goals as goal

pub returns : goal.returns
returns c = faults
