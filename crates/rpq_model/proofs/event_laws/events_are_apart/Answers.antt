use Rattle.rpq_model.specs.AnswerLaws.{query_for}
use Rattle.rpq_model.proofs.Apart.{events_are_apart}
use Rattle.rpq_model.proofs.event_laws.events_are_apart.Goals as goal

pub returns : goal.returns
returns g c = λ mode window. events_are_apart c.same_is_equal.ensures (query_for (g.L.Language.contains c.args.language.now) mode window)
