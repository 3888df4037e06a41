-- The kinds of fault that the faults of other crates are.
use Rattle.path_syntax.specs.declared.read.BadExpr.{BadExpr}
use Rattle.path_syntax.specs.declared.read.BadExpr.TheVariants as bad
use Rattle.dfa_build.specs.declared.fault.BuildFault.{BuildFault}
use Rattle.dfa_build.specs.declared.fault.BuildFault.TheVariants as build
use Rattle.query_file.specs.declared.fault.QueryKind.{QueryKind}
use Rattle.query_file.specs.declared.fault.QueryKind.TheVariants.{Expr, TooManyLabels}
use Rattle.query_file.specs.declared.fault.QueryKind.TheVariants.{TooManyStates, Memory}

-- the kind of a fault of an expression
abbrev pub kind_of_expr : BadExpr → QueryKind
kind_of_expr (bad.Unexpected at) = Expr (bad.Unexpected at)
kind_of_expr bad.Ended = Expr bad.Ended
kind_of_expr bad.TooLarge = Expr bad.TooLarge
kind_of_expr (bad.LongName at) = Expr (bad.LongName at)
kind_of_expr bad.Memory = Memory

-- the kind of a fault of an automaton's making
abbrev pub kind_of_build : BuildFault → QueryKind
kind_of_build (build.TooManyLabels count) = TooManyLabels count
kind_of_build build.TooManyStates = TooManyStates
kind_of_build build.Memory = Memory
