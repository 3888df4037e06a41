use Rattle.std.proofs.Common.{◌≡◌, ℕ, ◌+◌, ◌<◌, false, length, get_or}
use Rattle.std.specs.Prelude.{◌↔◌, IsTrue}
use Rattle.dfa_build.specs.PositionSet.{has}
use Rattle.dfa_table.specs.Discovery.{node_at}
use Rattle.dfa_build.specs.StateSets.{set_of}
use Rattle.dfa_build.proofs.state_sets.finals_of.Given as goal

-- the start isn't final, and it is told for the set of each node so far
abbrev pub invariant-loop-node : goal.invariant-loop-node
invariant-loop-node l = record {
  as_many : length l.finals.items ≡ l.node-index + 1;
  start : get_or l.finals.items 0 false ≡ false;
  sets : (place : ℕ) → place < l.node-index →
      IsTrue (get_or l.finals.items (place + 1) false) ↔ ((position : ℕ) × IsTrue (has (set_of (node_at l.nodes place)) position) × IsTrue (has l.last position));
}
