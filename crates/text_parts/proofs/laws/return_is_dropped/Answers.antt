use Rattle.text_parts.proofs.LineEnds.{return_is_dropped}
use Rattle.text_parts.proofs.laws.return_is_dropped.Goals as goal

pub returns : goal.returns
returns c = return_is_dropped
