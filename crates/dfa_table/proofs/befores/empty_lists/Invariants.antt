use Rattle.dfa_table.specs.Befores.{AreEmpty}
use Rattle.dfa_table.proofs.befores.empty_lists.Given as goal

-- so many empty lists
abbrev pub invariant-loop : goal.invariant-loop
invariant-loop l = AreEmpty l.counter l.lists.items
