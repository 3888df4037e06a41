use Rattle.stream_tuples.proofs.ByParts.{by_parts}
use Rattle.stream_tuples.proofs.laws.stream_by_parts.Goals as goal

pub returns : goal.returns
returns c = by_parts
