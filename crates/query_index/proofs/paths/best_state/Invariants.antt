use Rattle.query_index.specs.Paths.{IsBestBelow}
use Rattle.query_index.proofs.paths.best_state.Given as goal

-- the best of the states so far
abbrev pub invariant-loop-state : goal.invariant-loop-state
invariant-loop-state l = IsBestBelow l.forest l.root l.vertex l.state l.best
