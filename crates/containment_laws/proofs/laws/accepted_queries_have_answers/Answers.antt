use Rattle.containment_laws.proofs.Accepted.{accepted_have_answers}
use Rattle.containment_laws.proofs.laws.accepted_queries_have_answers.Goals as goal

pub returns : goal.returns
returns c = accepted_have_answers c.histories_have_answers.ensures
