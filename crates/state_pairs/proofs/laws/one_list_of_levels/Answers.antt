use Rattle.state_pairs.proofs.Unique.{one_list_of_levels}
use Rattle.state_pairs.proofs.laws.one_list_of_levels.Goals as goal

pub returns : goal.returns
returns c = one_list_of_levels
