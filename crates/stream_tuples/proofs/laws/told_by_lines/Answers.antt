use Rattle.stream_tuples.proofs.ByLines.{told_by_lines}
use Rattle.stream_tuples.proofs.laws.told_by_lines.Goals as goal

pub returns : goal.returns
returns c = told_by_lines
