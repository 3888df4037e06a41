use Rattle.std.proofs.Common.{◌≡◌, take}
use Rattle.query_index.proofs.automaton.finals_of.Given as goal

-- the states so far
abbrev pub invariant-loop-state : goal.invariant-loop-state
invariant-loop-state l = l.finals.items ≡ take l.state l.dfa.finals
