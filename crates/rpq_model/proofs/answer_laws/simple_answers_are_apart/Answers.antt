use Rattle.rpq_model.proofs.Queries.{simple_answers_are_apart}
use Rattle.rpq_model.proofs.answer_laws.simple_answers_are_apart.Goals as goal

pub returns : goal.returns
returns g c = simple_answers_are_apart (g.L.Language.contains c.args.language.now)
