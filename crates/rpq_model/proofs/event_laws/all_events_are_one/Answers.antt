use Rattle.std.proofs.Common.{[]}
use Rattle.rpq_model.specs.Events.{AreEvents}
use Rattle.rpq_model.specs.AnswerLaws.{query_for}
use Rattle.rpq_model.proofs.OneAnswer.{events_are_one}
use Rattle.rpq_model.proofs.EachEntry.{each_are_one}
use Rattle.rpq_model.proofs.event_laws.all_events_are_one.Goals as goal

pub returns : goal.returns
returns g c = λ mode window number history events others. each_are_one history []
    (AreEvents (query_for (g.L.Language.contains c.args.language.now) mode window) number) events others
    (events_are_one (query_for (g.L.Language.contains c.args.language.now) mode window) number)
