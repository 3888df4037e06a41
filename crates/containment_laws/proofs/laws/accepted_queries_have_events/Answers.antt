use Rattle.containment_laws.proofs.Accepted.{accepted_have_events, accepted_have_all_events}
use Rattle.containment_laws.proofs.laws.accepted_queries_have_events.Goals as goal

pub returns-clause-steps : goal.returns-clause-steps
returns-clause-steps c = accepted_have_events c.accepted_queries_have_answers.ensures

pub returns-clause-all : goal.returns-clause-all
returns-clause-all c =
    accepted_have_all_events (accepted_have_events c.accepted_queries_have_answers.ensures)
