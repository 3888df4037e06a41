use Rattle.std.proofs.Common.{ℕ, take, Contains}
use Rattle.dfa_table.specs.DfaValue.{step_of}
use Rattle.delta_forest.specs.Candidates.{Adds, IsHungOver}
use Rattle.delta_forest.proofs.hanging.add_where_it_leaves.Given as goal

-- beside the root those that are held with the states so far, and hang, are added
abbrev pub invariant-loop-state : goal.invariant-loop-state
invariant-loop-state l = Adds l.initial.roots.items l.roots.items
    (λ root. (state : ℕ) × Contains (take l.state-index l.state-items) state
    × IsHungOver l.sources l.holders (step_of l.dfa) l.edge state root)
