use Rattle.rpq_threads.proofs.StepsGoOn.{steps_go_on}
use Rattle.rpq_threads.proofs.blocks.BlocksStepSink.goes_on.Goals as goal

pub returns : goal.returns
returns g c = steps_go_on g.K.Sink.written g.K.Sink.faults g.O.Standing.seen
