use Rattle.std.proofs.Common.{ℕ, ◌<◌, Some}
use Rattle.minimal_dfa.specs.Classes.{AreTold}
use Rattle.minimal_dfa.proofs.classes.least_same.Given as goal

-- the states so far are told apart from this one
abbrev pub invariant-loop-other : goal.invariant-loop-other
invariant-loop-other l = (other : ℕ) → 0 < other → other < l.other → AreTold l.pairs other (Some l.state)
