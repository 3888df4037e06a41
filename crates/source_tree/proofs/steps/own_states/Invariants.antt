use Rattle.source_tree.proofs.OwnStates.{CoversFirst}
use Rattle.source_tree.proofs.steps.own_states.Given as goal

-- the states of the nodes so far are there
abbrev pub invariant-loop-k : goal.invariant-loop-k
invariant-loop-k l = CoversFirst l.tree l.vertex l.states.items l.k
