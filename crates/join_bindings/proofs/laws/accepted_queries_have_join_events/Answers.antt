use Rattle.join_bindings.proofs.HaveJoinEvents.{have_join_events}
use Rattle.join_bindings.proofs.laws.accepted_queries_have_join_events.Goals as goal

pub returns : goal.returns
returns c = have_join_events c.accepted_queries_have_answers.ensures
