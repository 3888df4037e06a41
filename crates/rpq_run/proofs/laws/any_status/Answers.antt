use Rattle.rpq_run.specs.Outcome.{meanings}
use Rattle.rpq_run.proofs.AnyStatuses.{any_status_holds}
use Rattle.rpq_run.proofs.laws.any_status.Goals as goal

pub returns : goal.returns
returns g c = λ given holds sinks objects outcome told runs is.
    any_status_holds (meanings g.F.Source.Source.left g.F.Source.Source.faults
    g.F.Sink.Sink.written g.F.Sink.Sink.faults) given holds sinks objects outcome told
    c.one_outcome.ensures c.one_two_way_outcome.ensures runs is
