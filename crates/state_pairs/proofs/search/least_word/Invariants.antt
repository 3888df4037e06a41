use Rattle.std.proofs.Common.{◌≡◌, ℕ, ◌<◌, List, ◌++◌, length, Some}
use Rattle.state_pairs.specs.Goals.{level_at, IsLeastWord}
use Rattle.state_pairs.proofs.search.least_word.Given as goal

-- what is least from the node is least from the beginning, after the labels so far
abbrev pub invariant-loop-level : goal.invariant-loop-level
invariant-loop-level g l = record {
  below : l.node < (g.G.Graph.graph l.graph).node_count;
  level : level_at l.levels l.node ≡ Some l.level;
  least : (rest : List ℕ) → length rest ≡ l.level → IsLeastWord (g.G.Graph.graph l.graph) l.node rest → IsLeastWord (g.G.Graph.graph l.graph) l.from (l.word.items ++ rest);
}

abbrev pub decreases-loop-level : goal.decreases-loop-level
decreases-loop-level g l = l.level
