use Rattle.dfa_table.proofs.Runs.{start_is_apart}
use Rattle.dfa_table.proofs.laws.start_is_apart.Goals as goal

pub returns : goal.returns
returns c = start_is_apart
