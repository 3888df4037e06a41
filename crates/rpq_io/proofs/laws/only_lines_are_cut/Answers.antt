use Rattle.rpq_io.proofs.CutLines.{cuts_only_lines}
use Rattle.rpq_io.proofs.laws.only_lines_are_cut.Goals as goal

pub returns : goal.returns
returns c = cuts_only_lines
