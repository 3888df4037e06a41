use Rattle.join_bindings.proofs.Telling.{through_is_touched}
use Rattle.join_bindings.proofs.laws.through_is_touched.Goals as goal

pub returns : goal.returns
returns c = through_is_touched
