use Rattle.std.proofs.Common.{◌<◌, length}
use Rattle.path_engine.proofs.parts.lightest_of.Given as goal

-- a place of a part
abbrev pub invariant-loop-place : goal.invariant-loop-place
invariant-loop-place l = l.lightest < length l.parts
