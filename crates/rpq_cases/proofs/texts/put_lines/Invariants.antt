use Rattle.std.proofs.Common.{length}
use Rattle.rpq_cases.proofs.texts.put_lines.Given as goal

-- each line is shorter than the text that it begins
abbrev pub decreases-loop-line : goal.decreases-loop-line
decreases-loop-line l = length l.rest
