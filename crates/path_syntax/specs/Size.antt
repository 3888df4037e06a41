-- How large an expression is.
use Rattle.std.specs.Prelude.{ℕ, ◌+◌}
use Rattle.path_syntax.specs.Expression.{Expression, Atom, Seq, Alt, Star, Plus, Opt}

-- how many times a label stands in the expression
abbrev pub atoms : Expression → ℕ
atoms (Atom label) = 1
atoms (Seq left right) = atoms left + atoms right
atoms (Alt left right) = atoms left + atoms right
atoms (Star body) = atoms body
atoms (Plus body) = atoms body
atoms (Opt body) = atoms body

-- how many labels and operators it has
abbrev pub nodes : Expression → ℕ
nodes (Atom label) = 1
nodes (Seq left right) = nodes left + nodes right + 1
nodes (Alt left right) = nodes left + nodes right + 1
nodes (Star body) = nodes body + 1
nodes (Plus body) = nodes body + 1
nodes (Opt body) = nodes body + 1
