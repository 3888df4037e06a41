use Rattle.std.proofs.Common.{◌≡◌, ℕ, Contains, length}
use Rattle.source_index.specs.Dues.{due_of}
use Rattle.delta_forest.proofs.candidates.add_expired.Given as goal

-- all other roots have the numbers that they had
abbrev pub invariant-loop-root : goal.invariant-loop-root
invariant-loop-root l =
    (root : ℕ) → (Contains l.roots.items root → ⊥) → due_of l.dues root ≡ due_of l.fn.dues root

-- the roots that still have a number
abbrev pub decreases-loop-root : goal.decreases-loop-root
decreases-loop-root l = length l.dues
