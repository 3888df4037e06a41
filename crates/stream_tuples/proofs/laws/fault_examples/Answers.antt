use Rattle.stream_tuples.proofs.FaultCases.{fault_examples}
use Rattle.stream_tuples.proofs.laws.fault_examples.Goals as goal

pub returns : goal.returns
returns c = fault_examples
