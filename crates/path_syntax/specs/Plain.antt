-- Expressions whose labels all point forwards.
use Rattle.rpq_base.specs.Plain.{IsPlainLabel}
use Rattle.path_syntax.specs.Expression.{Expression, Atom, Seq, Alt, Star, Plus, Opt}

-- no label of the expression is taken backwards
abbrev pub IsPlainExpression : Expression → Type 0
IsPlainExpression (Atom label) = IsPlainLabel label
IsPlainExpression (Seq left right) = IsPlainExpression left × IsPlainExpression right
IsPlainExpression (Alt left right) = IsPlainExpression left × IsPlainExpression right
IsPlainExpression (Star body) = IsPlainExpression body
IsPlainExpression (Plus body) = IsPlainExpression body
IsPlainExpression (Opt body) = IsPlainExpression body
