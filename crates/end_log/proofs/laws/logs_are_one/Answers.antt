use Rattle.end_log.proofs.SameEnds.{logs_are_one}
use Rattle.end_log.proofs.laws.logs_are_one.Goals as goal

pub returns : goal.returns
returns c = logs_are_one
