use Rattle.tuple_generator.proofs.Seeds.{seeds_are_small}
use Rattle.tuple_generator.proofs.laws.seeds_are_small.Goals as goal

pub returns : goal.returns
returns c = seeds_are_small
