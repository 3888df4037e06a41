use Rattle.delta_forest.proofs.Ends.{ends_are_one}
use Rattle.delta_forest.proofs.laws.ends_are_one.Goals as goal

pub returns : goal.returns
returns c = ends_are_one
