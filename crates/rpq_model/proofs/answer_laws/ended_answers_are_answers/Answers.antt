use Rattle.rpq_model.specs.AnswerLaws.{query_for}
use Rattle.rpq_model.proofs.EndedAnswers.{ended_answers_are_answers}
use Rattle.rpq_model.proofs.answer_laws.ended_answers_are_answers.Goals as goal

pub returns : goal.returns
returns g c = λ mode window. ended_answers_are_answers c.same_is_equal.ensures
    (query_for (g.L.Language.contains c.args.language.now) mode window)
