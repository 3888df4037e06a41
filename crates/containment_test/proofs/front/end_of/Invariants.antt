use Rattle.std.proofs.Common.{◌≡◌, ◌<◌, drop, length}
use Rattle.dfa_table.specs.Runs.{walk}
use Rattle.containment_test.proofs.front.end_of.Given as goal

-- what is left of the word leads from the state where the word leads
abbrev pub invariant-loop-label : goal.invariant-loop-label
invariant-loop-label l = record {
  within : l.state < length l.dfa.rows;
  end : walk l.dfa l.state (drop l.label-index l.word) ≡ walk l.dfa 0 l.word;
}
