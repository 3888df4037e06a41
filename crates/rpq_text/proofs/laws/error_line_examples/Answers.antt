use Rattle.rpq_text.proofs.StatusExamples.{start_lines, end_lines, reader_lines}
use Rattle.rpq_text.proofs.StatusExamples.{lines_in_order}
use Rattle.rpq_text.proofs.laws.error_line_examples.Goals as goal

pub returns-clause-start : goal.returns-clause-start
returns-clause-start c = start_lines

pub returns-clause-ends : goal.returns-clause-ends
returns-clause-ends c = end_lines

pub returns-clause-readers : goal.returns-clause-readers
returns-clause-readers c = reader_lines

pub returns-clause-order : goal.returns-clause-order
returns-clause-order c = lines_in_order
