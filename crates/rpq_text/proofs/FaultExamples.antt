-- The faults of files and of streams, each as its line, computed.
use Rattle.std.proofs.Common.{refl}
use Rattle.std.specs.Fmt.{digits}
use Rattle.rpq_text.specs.ErrorLines.{query_text, joins_text, asks_text, line_text, end_line}
use Rattle.rpq_text.specs.FaultExamples.{QueryFaultExamples, ExpressionFaultExamples}
use Rattle.rpq_text.specs.FaultExamples.{JoinsFaultExamples, AskFaultExamples, LineFaultExamples}

pub query_faults : QueryFaultExamples
unfolding query_text digits
query_faults = record {
  shape = refl;
  number = refl;
  twice = refl;
  many = refl;
  lacking = refl;
  labels = refl;
  states = refl;
  refused = refl;
  memory = refl;
  alone = refl;
}

pub expression_faults : ExpressionFaultExamples
unfolding query_text digits
expression_faults = record {
  unexpected = refl;
  ended = refl;
  large = refl;
  long = refl;
  memory = refl;
}

pub joins_faults : JoinsFaultExamples
unfolding joins_text digits
joins_faults = record {
  shape = refl;
  twice = refl;
  many = refl;
  unknown = refl;
  name = refl;
  memory = refl;
  alone = refl;
}

pub ask_faults : AskFaultExamples
unfolding asks_text digits
ask_faults = record {
  shape = refl;
  unknown = refl;
  name = refl;
  number = refl;
  many = refl;
  memory = refl;
  alone = refl;
}

pub line_faults : LineFaultExamples
unfolding line_text end_line digits
line_faults = record {
  fields = refl;
  time = refl;
  range = refl;
  name = refl;
  operation = refl;
  until = refl;
  memory = refl;
}
