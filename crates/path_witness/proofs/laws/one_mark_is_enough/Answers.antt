use Rattle.path_witness.proofs.Enough.{one_mark_is_enough}
use Rattle.path_witness.proofs.laws.one_mark_is_enough.Goals as goal

pub returns : goal.returns
returns c = one_mark_is_enough
