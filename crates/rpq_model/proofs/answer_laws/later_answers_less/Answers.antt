use Rattle.rpq_model.specs.AnswerLaws.{query_for}
use Rattle.rpq_model.proofs.Ends.{later_answers_less}
use Rattle.rpq_model.proofs.answer_laws.later_answers_less.Goals as goal

pub returns : goal.returns
returns g c = λ mode window. later_answers_less c.same_is_equal.ensures (query_for (g.L.Language.contains c.args.language.now) mode window)
