use Rattle.std.proofs.Common.{◌≡◌, ℕ, ◌<◌, length, Some}
use Rattle.std.specs.Prelude.{IsTrue}
use Rattle.state_pairs.specs.Goals.{level_at}
use Rattle.state_pairs.proofs.search.goals.Given as goal

-- the goals so far have level 0
abbrev pub invariant-loop-node : goal.invariant-loop-node
invariant-loop-node g l = record {
  as_many : length l.levels.items ≡ l.node;
  some : (node level : ℕ) → level_at l.levels.items node ≡ Some level → (level ≡ 0) × IsTrue ((g.G.Graph.graph l.graph).is_goal node);
  all : (node : ℕ) → node < l.node → IsTrue ((g.G.Graph.graph l.graph).is_goal node) → level_at l.levels.items node ≡ Some 0;
}
