use Rattle.saved_window.proofs.Example.{saved_example}
use Rattle.saved_window.proofs.laws.saved_example.Goals as goal

pub returns : goal.returns
returns c = saved_example
