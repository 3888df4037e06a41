use Rattle.rpq_model.specs.QueryEvents.{AreEventsUnder}
use Rattle.rpq_model.proofs.EachEntry.{each_fronts}
use Rattle.rpq_model.proofs.event_laws.events_have_fronts.Goals as goal

pub returns : goal.returns
returns c = λ queries before later lists count. each_fronts later lists count (AreEventsUnder 0 queries) before
