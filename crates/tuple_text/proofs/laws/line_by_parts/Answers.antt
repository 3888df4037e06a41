use Rattle.tuple_text.proofs.Lines.{line_by_parts}
use Rattle.tuple_text.proofs.laws.line_by_parts.Goals as goal

pub returns : goal.returns
returns c = line_by_parts
