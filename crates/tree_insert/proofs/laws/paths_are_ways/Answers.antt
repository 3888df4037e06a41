use Rattle.tree_insert.proofs.Bests.{paths_are_ways}
use Rattle.tree_insert.proofs.laws.paths_are_ways.Goals as goal

pub returns : goal.returns
returns c = paths_are_ways
