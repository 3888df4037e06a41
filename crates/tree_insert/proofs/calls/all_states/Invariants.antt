use Rattle.std.specs.Prelude.{ℕ, ◌<◌, Contains}
use Rattle.tree_insert.proofs.calls.all_states.Given as goal

abbrev pub invariant-loop-state : goal.invariant-loop-state
invariant-loop-state l = (state : ℕ) → state < l.state → Contains l.states.items state
