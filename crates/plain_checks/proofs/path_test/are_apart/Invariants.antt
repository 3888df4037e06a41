use Rattle.std.proofs.Common.{◌≡◌, drop}
use Rattle.plain_checks.specs.PathTests.{edges_of, are_apart}
use Rattle.plain_checks.proofs.path_test.are_apart.Given as goal

-- the edges are apart where those from the place on are
abbrev pub invariant-loop-place : goal.invariant-loop-place
invariant-loop-place l = are_apart (edges_of l.edges) ≡ are_apart (edges_of (drop l.place l.edges))
