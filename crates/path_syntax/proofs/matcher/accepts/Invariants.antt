use Rattle.std.proofs.Common.{drop}
use Rattle.path_syntax.specs.Expression.{expression}
use Rattle.path_syntax.proofs.MarkedWords.{Stands}
use Rattle.path_syntax.proofs.matcher.accepts.Given as goal

-- the labels that are left complete the word
abbrev pub invariant-loop-label : goal.invariant-loop-label
invariant-loop-label l = Stands (expression l.expr) l.marks.items (drop l.label-index l.rest) l.word
