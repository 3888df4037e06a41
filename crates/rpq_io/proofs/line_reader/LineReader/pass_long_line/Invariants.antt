use Rattle.rpq_io.specs.Held.{reads_left}
use Rattle.rpq_io.proofs.PassedLines.{HasPassed}
use Rattle.rpq_io.proofs.line_reader.LineReader.pass_long_line.Given as goal

-- what was let go of is of the line, and no read failed
abbrev pub invariant-loop-self : goal.invariant-loop-self
invariant-loop-self g l = HasPassed g.S.Source.left g.S.Source.faults l.initial.self l.self

abbrev pub decreases-loop-self : goal.decreases-loop-self
decreases-loop-self g l = reads_left l.self
