use Rattle.alike_histories.proofs.Outcomes.{alike_have_events}
use Rattle.alike_histories.proofs.laws.alike_have_events.Goals as goal

pub returns : goal.returns
returns c = alike_have_events c.one_entry_more.ensures
