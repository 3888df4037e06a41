use Rattle.rpq_model.specs.AnswerLaws.{query_for}
use Rattle.rpq_model.proofs.EndedAnswers.{ended_answers_are_one}
use Rattle.rpq_model.proofs.answer_laws.ended_answers_are_one.Goals as goal

pub returns : goal.returns
returns g c = λ mode window. ended_answers_are_one
    (query_for (g.L.Language.contains c.args.language.now) mode window)
