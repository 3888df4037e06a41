use Rattle.rpq_text.proofs.StartLines.{start_lines_tell_faults}
use Rattle.rpq_text.proofs.laws.start_lines_tell_faults.Goals as goal

pub returns : goal.returns
returns c = start_lines_tell_faults
