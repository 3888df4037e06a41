use Rattle.std.proofs.Common.{ℕ, take, Contains}
use Rattle.dfa_table.specs.DfaValue.{step_of}
use Rattle.delta_forest.specs.Candidates.{Adds, IsHeldBy}
use Rattle.delta_forest.proofs.candidates.add_held.Given as goal

-- the roots that are held with the states so far are added
abbrev pub invariant-loop-state : goal.invariant-loop-state
invariant-loop-state l = Adds l.fn.roots.items l.roots.items
    (λ root. (state : ℕ) × Contains (take l.state-index l.state-items) state
    × IsHeldBy l.holders (step_of l.dfa) l.edge state root)
