use Rattle.std.specs.Prelude.{◌↔◌, Contains, List, ℕ}
use Rattle.std.proofs.Common.{take}
use Rattle.join_bindings.specs.Partial.{Covers}
use Rattle.join_bindings.proofs.through.closed.Given as goal

-- the bindings of those so far
abbrev pub invariant-loop-bound : goal.invariant-loop-bound
invariant-loop-bound l = (names : List (List ℕ)) → Contains l.found.items names ↔ Covers (take l.bound-index l.partials) names
