use Rattle.join_file.proofs.LineParts.{line_by_parts}
use Rattle.join_file.proofs.laws.join_line_by_parts.Goals as goal

pub returns : goal.returns
returns c = line_by_parts
