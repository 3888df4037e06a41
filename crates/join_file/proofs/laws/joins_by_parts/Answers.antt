use Rattle.join_file.proofs.ByParts.{joins_by_parts}
use Rattle.join_file.proofs.laws.joins_by_parts.Goals as goal

pub returns : goal.returns
returns c = joins_by_parts
