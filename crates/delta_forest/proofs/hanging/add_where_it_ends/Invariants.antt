use Rattle.std.proofs.Common.{ℕ, take, Contains}
use Rattle.delta_tree.specs.Nodes.{node_id}
use Rattle.delta_forest.specs.Candidates.{Adds, IsHungBy}
use Rattle.delta_forest.proofs.hanging.add_where_it_ends.Given as goal

-- the roots of the states so far are added
abbrev pub invariant-loop-state : goal.invariant-loop-state
invariant-loop-state l = Adds l.fn.roots.items l.roots.items
    (λ root. (state : ℕ) × Contains (take l.state-index l.state-items) state
    × IsHungBy l.sources l.holders l.edge (node_id l.edge.to state) (node_id l.edge.to state) root)
