-- Faults as they are told.
use Rattle.std.specs.Prelude.{ℕ, List, ◌++◌, codes, decimal}
use Rattle.path_syntax.specs.declared.read.BadExpr.{BadExpr}
use Rattle.path_syntax.specs.declared.read.BadExpr.TheVariants.{Unexpected, Ended, TooLarge}
use Rattle.path_syntax.specs.declared.read.BadExpr.TheVariants.{LongName, Memory}

-- a fault as it is told
abbrev pub bad_expr_text : BadExpr → List ℕ
bad_expr_text (Unexpected at) = codes "unexpected byte " ++ decimal at
bad_expr_text Ended = codes "expression ended"
bad_expr_text TooLarge = codes "expression too large"
bad_expr_text (LongName at) = codes "long label " ++ decimal at
bad_expr_text Memory = codes "out of memory"
