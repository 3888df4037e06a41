use Rattle.path_engine.proofs.Staying.{stay}
use Rattle.path_engine.proofs.laws.nodes_stay.Goals as goal

pub returns : goal.returns
returns c = stay
