-- The faults of files and of streams, each as its line on the errors.
use Rattle.std.specs.Prelude.{◌≡◌, ℕ, List, [], ◌∷◌, codes}
use Rattle.path_syntax.specs.declared.read.BadExpr.{BadExpr}
use Rattle.path_syntax.specs.declared.read.BadExpr.TheVariants.{Unexpected, Ended, LongName}
use Rattle.path_syntax.specs.declared.read.BadExpr.TheVariants.{TooLarge, Memory as MemoryOfExpr}
use Rattle.query_file.specs.declared.fault.QueryKind.{QueryKind}
use Rattle.query_file.specs.declared.fault.QueryKind.TheVariants.{Shape, Number, Twice, TooMany}
use Rattle.query_file.specs.declared.fault.QueryKind.TheVariants.{NoQuery, Expr, NotContained}
use Rattle.query_file.specs.declared.fault.QueryKind.TheVariants.{TooManyLabels, TooManyStates}
use Rattle.query_file.specs.declared.fault.QueryKind.TheVariants.{Memory as MemoryOfQueries}
use Rattle.query_file.specs.FaultTexts.{query_fault_text}
use Rattle.join_file.specs.declared.fault.JoinFileFaultKind.{JoinFileFaultKind}
use Rattle.join_file.specs.declared.fault.JoinFileFaultKind.TheVariants as joins_kind
use Rattle.join_file.specs.FaultTexts.{joins_fault_text}
use Rattle.ask_text.specs.declared.fault.AskKind.{AskKind}
use Rattle.ask_text.specs.declared.fault.AskKind.TheVariants as ask_kind
use Rattle.ask_text.specs.FaultTexts.{ask_fault_text}
use Rattle.tuple_text.specs.declared.read.BadLine.{BadLine}
use Rattle.tuple_text.specs.declared.read.BadLine.TheVariants as bad_line
use Rattle.stream_tuples.specs.declared.ends.StreamEnd.TheVariants.{Line}
use Rattle.rpq_text.specs.declared.ends.StartFault.TheVariants.{Queries, Joins, Asks}
use Rattle.rpq_text.specs.ErrorLines.{start_line, end_line}
use Rattle.rpq_text.specs.Examples.{label_named}

-- the line for a fault of this kind in the line of the queries file with this number
abbrev pub queries_fault : ℕ → QueryKind → List ℕ
queries_fault line kind = start_line (Queries (record { line = line; kind = kind }))

-- the line for a fault of the expression there
abbrev pub expression_fault : ℕ → BadExpr → List ℕ
expression_fault line fault = queries_fault line (Expr fault)

-- the line for a fault in a line of the joins file
abbrev pub joins_fault : ℕ → JoinFileFaultKind → List ℕ
joins_fault line kind = start_line (Joins (record { line = line; kind = kind }))

-- the line for a fault in a line of the asks file
abbrev pub asks_fault : ℕ → AskKind → List ℕ
asks_fault line kind = start_line (Asks (record { line = line; kind = kind }))

-- the line for a fault in a line of a stream, of which the first number is the stream's
abbrev pub stream_fault : ℕ → ℕ → BadLine → List ℕ
stream_fault stream line fault = end_line stream (Line line fault)

-- each fault of a queries file, and one that is told without a run
pub record QueryFaultExamples : Type 0 where
  pub shape : queries_fault 1 Shape ≡ codes "rpq: queries line 1: shape\n"
  pub number : queries_fault 2 Number ≡ codes "rpq: queries line 2: number\n"
  pub twice : queries_fault 3 (Twice (codes "q")) ≡ codes "rpq: queries line 3: name twice\n"
  pub many : queries_fault 65 TooMany ≡ codes "rpq: queries line 65: too many queries\n"
  pub lacking : queries_fault 4 NoQuery ≡ codes "rpq: queries line 4: no query\n"
  pub labels : queries_fault 5 (TooManyLabels 70) ≡ codes "rpq: queries line 5: 70 labels\n"
  pub states : queries_fault 6 TooManyStates ≡ codes "rpq: queries line 6: too many states\n"
  pub refused : queries_fault 7 (NotContained [] (label_named (codes "a") ∷ [])
      (label_named (codes "b") ∷ label_named (codes "c") ∷ []))
      ≡ codes "rpq: queries line 7: not contained () a b/c\n"
  pub memory : queries_fault 8 MemoryOfQueries ≡ codes "rpq: queries line 8: out of memory\n"
  pub alone : query_fault_text (record { line = 12; kind = Shape }) ≡ codes "line 12: shape"

-- each fault of an expression
pub record ExpressionFaultExamples : Type 0 where
  pub unexpected : expression_fault 1 (Unexpected 4)
      ≡ codes "rpq: queries line 1: unexpected byte 4\n"
  pub ended : expression_fault 2 Ended ≡ codes "rpq: queries line 2: expression ended\n"
  pub large : expression_fault 3 TooLarge ≡ codes "rpq: queries line 3: expression too large\n"
  pub long : expression_fault 4 (LongName 2) ≡ codes "rpq: queries line 4: long label 2\n"
  pub memory : expression_fault 5 MemoryOfExpr ≡ codes "rpq: queries line 5: out of memory\n"

-- each fault of a joins file, and one that is told without a run
pub record JoinsFaultExamples : Type 0 where
  pub shape : joins_fault 1 joins_kind.Shape ≡ codes "rpq: joins line 1: shape\n"
  pub twice : joins_fault 2 (joins_kind.Twice (codes "j"))
      ≡ codes "rpq: joins line 2: name twice\n"
  pub many : joins_fault 33 joins_kind.TooMany ≡ codes "rpq: joins line 33: too many\n"
  pub unknown : joins_fault 3 joins_kind.UnknownQuery ≡ codes "rpq: joins line 3: unknown query\n"
  pub name : joins_fault 4 joins_kind.BadName ≡ codes "rpq: joins line 4: bad name\n"
  pub memory : joins_fault 5 joins_kind.Memory ≡ codes "rpq: joins line 5: out of memory\n"
  pub alone : joins_fault_text (record { line = 12; kind = joins_kind.Shape })
      ≡ codes "line 12: shape"

-- each fault of an asks file, and one that is told without a run
pub record AskFaultExamples : Type 0 where
  pub shape : asks_fault 1 ask_kind.Shape ≡ codes "rpq: asks line 1: shape\n"
  pub unknown : asks_fault 2 ask_kind.UnknownQuery ≡ codes "rpq: asks line 2: unknown query\n"
  pub name : asks_fault 3 ask_kind.BadName ≡ codes "rpq: asks line 3: bad name\n"
  pub number : asks_fault 4 ask_kind.Number ≡ codes "rpq: asks line 4: number\n"
  pub many : asks_fault 65 ask_kind.TooMany ≡ codes "rpq: asks line 65: too many\n"
  pub memory : asks_fault 5 ask_kind.Memory ≡ codes "rpq: asks line 5: out of memory\n"
  pub alone : ask_fault_text (record { line = 12; kind = ask_kind.Shape })
      ≡ codes "line 12: shape"

-- each fault of a line of a stream
pub record LineFaultExamples : Type 0 where
  pub fields : stream_fault 1 7 (bad_line.Fields 3) ≡ codes "rpq: stream 1 line 7: fields 3\n"
  pub time : stream_fault 2 10 bad_line.Time ≡ codes "rpq: stream 2 line 10: time\n"
  pub range : stream_fault 1 2 bad_line.TimeRange ≡ codes "rpq: stream 1 line 2: time range\n"
  pub name : stream_fault 1 3 (bad_line.BadName 4) ≡ codes "rpq: stream 1 line 3: name 4\n"
  pub operation : stream_fault 64 1 bad_line.Op ≡ codes "rpq: stream 64 line 1: operation\n"
  pub until : stream_fault 1 5 bad_line.Until ≡ codes "rpq: stream 1 line 5: until\n"
  pub memory : stream_fault 1 6 bad_line.Memory ≡ codes "rpq: stream 1 line 6: memory\n"
