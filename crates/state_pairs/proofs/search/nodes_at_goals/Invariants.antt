use Rattle.std.proofs.Common.{◌≡◌, ℕ, ◌<◌, Some, Contains}
use Rattle.std.specs.Prelude.{◌↔◌}
use Rattle.state_pairs.specs.Goals.{level_at}
use Rattle.state_pairs.proofs.search.nodes_at_goals.Given as goal

-- of the nodes so far those of level 0
abbrev pub invariant-loop-node : goal.invariant-loop-node
invariant-loop-node l = (node : ℕ) → Contains l.nodes.items node ↔ ((node < l.node) × (level_at l.levels node ≡ Some 0))
