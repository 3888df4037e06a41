use Rattle.std.proofs.Common.{refl}
use Rattle.generated_run.proofs.laws.said_example.Goals as goal

pub returns : goal.returns
returns c = refl
