use Rattle.std.proofs.Common.{ℕ, ◌≤◌}
use Rattle.query_index.specs.Shown.{ShowAllBut}
use Rattle.query_index.proofs.showing.renew_every.Given as goal

-- the rows of the roots from this one on are left
abbrev pub invariant-loop-root : goal.invariant-loop-root
invariant-loop-root l = ShowAllBut (λ (each : ℕ). l.root ≤ each) l.mode l.names l.forest l.rows
