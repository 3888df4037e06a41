use Rattle.history_model.proofs.Runs.{run_example}
use Rattle.history_model.proofs.world_laws.run_example.Goals as goal

pub returns : goal.returns
returns c = run_example
