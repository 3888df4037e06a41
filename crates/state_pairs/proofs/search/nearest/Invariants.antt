use Rattle.std.proofs.Common.{◌≡◌, ℕ, ◌<◌, Some}
use Rattle.state_pairs.specs.Goals.{level_at}
use Rattle.state_pairs.proofs.search.nearest.Given as goal

-- no label so far leads to a node of this level
abbrev pub invariant-loop-label : goal.invariant-loop-label
invariant-loop-label g l = (label next : ℕ) → label < l.label → (g.G.Graph.graph l.graph).leads l.node label ≡ Some next → level_at l.levels next ≡ Some l.level → ⊥
