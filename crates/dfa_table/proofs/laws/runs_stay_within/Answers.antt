use Rattle.dfa_table.proofs.Runs.{runs_stay_within}
use Rattle.dfa_table.proofs.laws.runs_stay_within.Goals as goal

pub returns : goal.returns
returns c = runs_stay_within
