use Rattle.path_witness.proofs.Example.{shown_example}
use Rattle.path_witness.proofs.laws.shown_example.Goals as goal

pub returns : goal.returns
returns c = shown_example
