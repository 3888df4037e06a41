use Rattle.rpq_model.specs.AnswerLaws.{query_for}
use Rattle.rpq_model.proofs.Ends.{lasts_below}
use Rattle.rpq_model.proofs.answer_laws.lasts_below_its_end.Goals as goal

pub returns : goal.returns
returns g c = λ mode window. lasts_below c.same_is_equal.ensures (query_for (g.L.Language.contains c.args.language.now) mode window)
