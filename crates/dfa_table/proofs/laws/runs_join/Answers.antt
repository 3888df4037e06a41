use Rattle.dfa_table.proofs.Runs.{runs_join}
use Rattle.dfa_table.proofs.laws.runs_join.Goals as goal

pub returns : goal.returns
returns c = runs_join
