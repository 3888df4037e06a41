-- Faults as they are told.
use Rattle.std.specs.Prelude.{ℕ, Bool, true, false, List, ◌++◌, codes, decimal}
use Rattle.path_syntax.specs.FaultTexts.{bad_expr_text}
use Rattle.path_syntax.specs.Written.{written_word}
use Rattle.query_file.specs.declared.fault.QueryFault.{QueryFault}
use Rattle.query_file.specs.declared.fault.QueryKind.{QueryKind}
use Rattle.query_file.specs.declared.fault.QueryKind.TheVariants.{Shape, Number, Twice, TooMany}
use Rattle.query_file.specs.declared.fault.QueryKind.TheVariants.{NoQuery, Expr, TooManyLabels}
use Rattle.query_file.specs.declared.fault.QueryKind.TheVariants.{TooManyStates, NotContained}
use Rattle.query_file.specs.declared.fault.QueryKind.TheVariants.{Memory}

-- whether more than a fixed text is told of the kind
abbrev pub has_parts : QueryKind → Bool
has_parts (Expr fault) = true
has_parts (TooManyLabels count) = true
has_parts (NotContained p q w) = true
has_parts others = false

-- what is wrong with a line, as it is told
abbrev pub query_kind_text : QueryKind → List ℕ
query_kind_text Shape = codes "shape"
query_kind_text Number = codes "number"
query_kind_text (Twice name) = codes "name twice"
query_kind_text TooMany = codes "too many queries"
query_kind_text NoQuery = codes "no query"
query_kind_text (Expr fault) = bad_expr_text fault
query_kind_text (TooManyLabels count) = decimal count ++ codes " labels"
query_kind_text TooManyStates = codes "too many states"
query_kind_text (NotContained p q w) =
    codes "not contained " ++ written_word p ++ codes " " ++ written_word q ++ codes " "
    ++ written_word w
query_kind_text Memory = codes "out of memory"

-- a fault, as it is told
abbrev pub query_fault_text : QueryFault → List ℕ
query_fault_text fault =
    codes "line " ++ decimal fault.line ++ codes ": " ++ query_kind_text fault.kind
