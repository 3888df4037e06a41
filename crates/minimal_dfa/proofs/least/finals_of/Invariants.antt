use Rattle.std.proofs.Common.{◌≡◌, ℕ, ◌+◌, ◌<◌, false, length, get_or}
use Rattle.dfa_table.specs.DfaValue.{is_final}
use Rattle.minimal_dfa.specs.Classes.{state_at}
use Rattle.minimal_dfa.proofs.least.finals_of.Given as goal

-- it is told for the start and the state of each node so far
abbrev pub invariant-loop-node : goal.invariant-loop-node
invariant-loop-node l = record {
  as_many : length l.finals.items ≡ l.node-index + 1;
  each : (number : ℕ) → number < l.node-index + 1 → get_or l.finals.items number false ≡ is_final l.dfa (state_at l.nodes number);
}
