use Rattle.delta_forest.proofs.Reasons.{early_expiry, raise_elsewhere, removal_elsewhere}
use Rattle.delta_forest.proofs.laws.touched_for_a_reason.Goals as goal

pub returns-clause-raise : goal.returns-clause-raise
returns-clause-raise c = raise_elsewhere

pub returns-clause-removal : goal.returns-clause-removal
returns-clause-removal c = removal_elsewhere

pub returns-clause-expiry : goal.returns-clause-expiry
returns-clause-expiry c = early_expiry
