use Rattle.rpq_text.proofs.StatusExamples.{start_statuses, end_statuses, reader_statuses}
use Rattle.rpq_text.proofs.StatusExamples.{status_order}
use Rattle.rpq_text.proofs.laws.status_examples.Goals as goal

pub returns-clause-start : goal.returns-clause-start
returns-clause-start c = start_statuses

pub returns-clause-ends : goal.returns-clause-ends
returns-clause-ends c = end_statuses

pub returns-clause-readers : goal.returns-clause-readers
returns-clause-readers c = reader_statuses

pub returns-clause-order : goal.returns-clause-order
returns-clause-order c = status_order
