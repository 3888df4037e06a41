use Rattle.rpq_model.specs.AnswerLaws.{query_for}
use Rattle.rpq_model.proofs.Queries.{until_is_one}
use Rattle.rpq_model.proofs.answer_laws.until_is_one.Goals as goal

pub returns : goal.returns
returns g c = λ mode window. until_is_one (query_for (g.L.Language.contains c.args.language.now) mode window)
