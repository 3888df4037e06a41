use Rattle.join_bindings.proofs.BindingExamples.{binding_examples}
use Rattle.join_bindings.proofs.laws.binding_examples.Goals as goal

pub returns : goal.returns
returns c = binding_examples
