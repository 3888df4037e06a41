use Rattle.rpq_text.proofs.FaultExamples.{query_faults, expression_faults, joins_faults}
use Rattle.rpq_text.proofs.FaultExamples.{ask_faults, line_faults}
use Rattle.rpq_text.proofs.laws.fault_line_examples.Goals as goal

pub returns-clause-queries : goal.returns-clause-queries
returns-clause-queries c = query_faults

pub returns-clause-expressions : goal.returns-clause-expressions
returns-clause-expressions c = expression_faults

pub returns-clause-joins : goal.returns-clause-joins
returns-clause-joins c = joins_faults

pub returns-clause-asks : goal.returns-clause-asks
returns-clause-asks c = ask_faults

pub returns-clause-streams : goal.returns-clause-streams
returns-clause-streams c = line_faults
