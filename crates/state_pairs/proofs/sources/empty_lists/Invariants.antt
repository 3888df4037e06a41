use Rattle.state_pairs.specs.Sources.{AreEmpty}
use Rattle.state_pairs.proofs.sources.empty_lists.Given as goal

-- so many empty lists
abbrev pub invariant-loop : goal.invariant-loop
invariant-loop l = AreEmpty l.counter l.lists.items
