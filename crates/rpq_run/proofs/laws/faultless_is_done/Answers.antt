use Rattle.rpq_run.specs.Outcome.{meanings}
use Rattle.rpq_run.proofs.Faultless.{faultless_done}
use Rattle.rpq_run.proofs.laws.faultless_is_done.Goals as goal

pub returns : goal.returns
returns g c = λ given holds sinks objects outcome told openings run mode runs is fine none other.
    faultless_done (meanings g.F.Source.Source.left g.F.Source.Source.faults g.F.Sink.Sink.written
    g.F.Sink.Sink.faults) given holds sinks objects outcome told openings run
    c.one_outcome.ensures c.one_two_way_outcome.ensures c.steps_have_the_events.ensures
    c.steps_have_join_events.ensures mode runs is fine none other
