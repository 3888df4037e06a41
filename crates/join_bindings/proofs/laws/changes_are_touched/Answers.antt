use Rattle.join_bindings.proofs.Losing.{changes_are_touched}
use Rattle.join_bindings.proofs.laws.changes_are_touched.Goals as goal

pub returns : goal.returns
returns c = changes_are_touched
