use Rattle.rpq_model.specs.QueryEvents.{AreEventsUnder}
use Rattle.rpq_model.proofs.EachEntry.{each_push}
use Rattle.rpq_model.proofs.event_laws.events_grow.Goals as goal

pub returns : goal.returns
returns c = λ queries before later entry lists events. each_push later lists (AreEventsUnder 0 queries) before entry events
