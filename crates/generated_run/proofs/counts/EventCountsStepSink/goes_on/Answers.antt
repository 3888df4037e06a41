use Rattle.generated_run.proofs.Counting.{counts_go_on}
use Rattle.generated_run.proofs.counts.EventCountsStepSink.goes_on.Goals as goal

pub returns : goal.returns
returns g c = counts_go_on g.O.Standing.seen
