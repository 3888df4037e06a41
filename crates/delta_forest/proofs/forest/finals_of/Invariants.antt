use Rattle.std.proofs.Common.{ℕ, ◌<◌, Contains}
use Rattle.std.specs.Prelude.{◌↔◌, IsTrue}
use Rattle.dfa_table.specs.DfaValue.{is_final}
use Rattle.delta_forest.proofs.forest.finals_of.Given as goal

-- the final states so far
abbrev pub invariant-loop-state : goal.invariant-loop-state
invariant-loop-state l = (0 < l.state) × ((state : ℕ) →
    Contains l.finals.items state
    ↔ ((state < l.state) × ((0 < state) × IsTrue (is_final l.dfa state))))
