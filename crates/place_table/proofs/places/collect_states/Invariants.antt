use Rattle.place_table.proofs.Reached.{AreSoFar}
use Rattle.place_table.proofs.places.collect_states.Given as goal

-- the states that some root has, of those so far
abbrev pub invariant-loop-k : goal.invariant-loop-k
invariant-loop-k l = AreSoFar l.hints l.places l.vertex l.k l.states.items
