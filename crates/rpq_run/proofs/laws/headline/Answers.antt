use Rattle.rpq_run.specs.Outcome.{meanings}
use Rattle.rpq_run.proofs.Headlines.{headline_holds}
use Rattle.rpq_run.proofs.laws.headline.Goals as goal

pub returns : goal.returns
returns g c = λ given holds sinks objects outcome told runs done is.
    headline_holds (meanings g.F.Source.Source.left g.F.Source.Source.faults g.F.Sink.Sink.written
    g.F.Sink.Sink.faults) given holds sinks objects outcome told c.one_outcome.ensures
    c.one_two_way_outcome.ensures c.steps_have_the_events.ensures
    c.steps_have_join_events.ensures runs done is
