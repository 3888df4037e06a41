use Rattle.rpq_model.specs.AnswerLaws.{query_for}
use Rattle.rpq_model.proofs.EndedAnswers.{ends_are_deadlines}
use Rattle.rpq_model.proofs.answer_laws.ends_are_deadlines.Goals as goal

pub returns : goal.returns
returns g c = λ mode window. ends_are_deadlines c.same_is_equal.ensures
    (query_for (g.L.Language.contains c.args.language.now) mode window)
