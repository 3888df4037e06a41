-- Expressions, as trees: without where their parts lie in memory.
use Rattle.rpq_base.specs.declared.data.Label.{Label}
use Rattle.path_syntax.specs.declared.expr.Expr.{Expr}
use Rattle.path_syntax.specs.declared.expr.Expr.TheVariants as at

-- one label; one side and then the other; one of two sides; a body repeated any number of times, at
-- least once, or at most once
pub data Expression : Type 0 where
  Atom : Label → Expression
  Seq : Expression → Expression → Expression
  Alt : Expression → Expression → Expression
  Star : Expression → Expression
  Plus : Expression → Expression
  Opt : Expression → Expression

-- an expression as a tree
abbrev pub expression : Expr → Expression
expression (at.Atom label) = Atom label
expression (at.Seq' p left q right) = Seq (expression left) (expression right)
expression (at.Alt' p left q right) = Alt (expression left) (expression right)
expression (at.Star' p body) = Star (expression body)
expression (at.Plus' p body) = Plus (expression body)
expression (at.Opt' p body) = Opt (expression body)
