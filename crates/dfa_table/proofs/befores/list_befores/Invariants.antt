use Rattle.std.proofs.Common.{map}
use Rattle.dfa_table.specs.Befores.{AreListed}
use Rattle.dfa_table.proofs.befores.list_befores.Given as goal

-- the states so far are listed
abbrev pub invariant-loop-state : goal.invariant-loop-state
invariant-loop-state l = AreListed (map (λ row. row.items) l.rows) l.label l.state l.lists
