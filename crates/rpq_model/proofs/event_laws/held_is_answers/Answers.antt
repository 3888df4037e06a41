use Rattle.rpq_model.specs.AnswerLaws.{query_for}
use Rattle.rpq_model.proofs.Held.{held_is_answers}
use Rattle.rpq_model.proofs.event_laws.held_is_answers.Goals as goal

pub returns : goal.returns
returns g c = λ mode window. held_is_answers c.same_is_equal.ensures (query_for (g.L.Language.contains c.args.language.now) mode window)
