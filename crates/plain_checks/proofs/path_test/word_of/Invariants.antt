use Rattle.std.proofs.Common.{◌≡◌, take}
use Rattle.rpq_model.specs.Path.{word_of}
use Rattle.plain_checks.specs.PathTests.{edges_of}
use Rattle.plain_checks.proofs.path_test.word_of.Given as goal

-- the labels of the edges so far
abbrev pub invariant-loop-place : goal.invariant-loop-place
invariant-loop-place l = l.word.items ≡ word_of (edges_of (take l.place l.edges))
