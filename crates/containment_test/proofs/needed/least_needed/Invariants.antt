use Rattle.std.proofs.Common.{ℕ, ◌<◌}
use Rattle.containment_test.specs.Needed.{IsNeeded}
use Rattle.containment_test.proofs.needed.least_needed.Given as goal

-- no label so far is needed
abbrev pub invariant-loop-label : goal.invariant-loop-label
invariant-loop-label l = (label next : ℕ) → label < l.label → IsNeeded l.dfa l.state label next → ⊥
