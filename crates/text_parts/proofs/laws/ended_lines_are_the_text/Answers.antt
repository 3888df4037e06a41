use Rattle.text_parts.proofs.Pieces.{ended_lines_are}
use Rattle.text_parts.proofs.laws.ended_lines_are_the_text.Goals as goal

pub returns : goal.returns
returns c = ended_lines_are
