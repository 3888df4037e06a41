use Rattle.std.proofs.Common.{◌≡◌, drop}
use Rattle.plain_checks.specs.PathTests.{edges_of, avoids}
use Rattle.plain_checks.proofs.path_test.avoids.Given as goal

-- the edges avoid the vertex where those from the place on do
abbrev pub invariant-loop-place : goal.invariant-loop-place
invariant-loop-place l = avoids l.vertex (edges_of l.edges) ≡ avoids l.vertex (edges_of (drop l.place l.edges))
