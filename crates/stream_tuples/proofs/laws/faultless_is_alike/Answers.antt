use Rattle.stream_tuples.proofs.ByLines.{faultless_is_alike}
use Rattle.stream_tuples.proofs.laws.faultless_is_alike.Goals as goal

pub returns : goal.returns
returns c = faultless_is_alike
