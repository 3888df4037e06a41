use Rattle.query_file.proofs.ByParts.{by_parts}
use Rattle.query_file.proofs.laws.queries_by_parts.Goals as goal

pub returns : goal.returns
returns c = by_parts
