use Rattle.std.proofs.Common.{ℕ, take, Contains, ◌⊎◌}
use Rattle.query_index.proofs.stale.add_all.Given as goal

-- the roots so far are there, and those that were
abbrev pub invariant-loop-root : goal.invariant-loop-root
invariant-loop-root l = (each : ℕ) →
    Contains l.fn.stale each ⊎ Contains (take l.root-index l.roots) each →
    Contains l.stale each
