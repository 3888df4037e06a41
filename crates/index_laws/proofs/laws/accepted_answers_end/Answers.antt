use Rattle.index_laws.proofs.Ending.{accepted_answers_end}
use Rattle.index_laws.proofs.laws.accepted_answers_end.Goals as goal

pub returns : goal.returns
returns c = accepted_answers_end c.accepted_queries_have_answers.ensures
