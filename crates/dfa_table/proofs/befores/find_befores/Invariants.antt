use Rattle.std.proofs.Common.{map}
use Rattle.dfa_table.specs.Befores.{AreBefores}
use Rattle.dfa_table.proofs.befores.find_befores.Given as goal

-- the states before each state by the labels so far
abbrev pub invariant-loop-label : goal.invariant-loop-label
invariant-loop-label l = AreBefores (map (λ row. row.items) l.rows) l.label l.befores.items
