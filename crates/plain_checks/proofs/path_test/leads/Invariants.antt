use Rattle.std.proofs.Common.{◌≡◌, drop}
use Rattle.plain_checks.specs.PathTests.{edges_of, leads_to}
use Rattle.plain_checks.proofs.path_test.leads.Given as goal

-- the edges lead on where those from the place on do
abbrev pub invariant-loop-place : goal.invariant-loop-place
invariant-loop-place l =
    leads_to l.fn.from (edges_of l.edges) l.to ≡ leads_to l.vertex (edges_of (drop l.place l.edges)) l.to
