use Rattle.dfa_table.proofs.Runs.{runs_go_by_numbers}
use Rattle.dfa_table.proofs.laws.runs_go_by_numbers.Goals as goal

pub returns : goal.returns
returns c = runs_go_by_numbers
