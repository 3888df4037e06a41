use Rattle.rpq_model.specs.AnswerLaws.{query_for}
use Rattle.rpq_model.proofs.EndedAnswers.{answers_end}
use Rattle.rpq_model.proofs.answer_laws.answers_end.Goals as goal

pub returns : goal.returns
returns g c = λ mode window. answers_end c.same_is_equal.ensures
    (query_for (g.L.Language.contains c.args.language.now) mode window)
