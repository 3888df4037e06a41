use Rattle.live_asks.proofs.Examples.{live_examples}
use Rattle.live_asks.proofs.laws.live_examples.Goals as goal

pub returns : goal.returns
returns c = live_examples
