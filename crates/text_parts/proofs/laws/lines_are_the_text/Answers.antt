use Rattle.text_parts.proofs.LineLaws.{lines_are_the_text}
use Rattle.text_parts.proofs.laws.lines_are_the_text.Goals as goal

pub returns : goal.returns
returns c = lines_are_the_text
