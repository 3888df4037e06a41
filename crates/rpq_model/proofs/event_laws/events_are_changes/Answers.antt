use Rattle.rpq_model.specs.AnswerLaws.{query_for}
use Rattle.rpq_model.proofs.ByMembers.{events_are_changes}
use Rattle.rpq_model.proofs.event_laws.events_are_changes.Goals as goal

pub returns : goal.returns
returns g c = λ mode window. events_are_changes c.same_is_equal.ensures (query_for (g.L.Language.contains c.args.language.now) mode window)
