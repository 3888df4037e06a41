use Rattle.join_bindings.proofs.Leading.{events_lead_on}
use Rattle.join_bindings.proofs.laws.events_lead_on.Goals as goal

pub returns : goal.returns
returns c = events_lead_on c.events_are_differences.ensures
