use Rattle.tuple_generator.proofs.Seeds.{seeds_go_on}
use Rattle.tuple_generator.proofs.laws.seeds_go_on.Goals as goal

pub returns : goal.returns
returns c = seeds_go_on
