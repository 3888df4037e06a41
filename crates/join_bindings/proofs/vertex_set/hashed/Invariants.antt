use Rattle.std.proofs.Common.{List, ℕ, take}
use Rattle.std.specs.Prelude.{◌↔◌, Contains}
use Rattle.join_bindings.proofs.vertex_set.hashed.Given as goal

-- the vertices so far are found by their hashes
abbrev pub invariant-loop-vertex : goal.invariant-loop-vertex
invariant-loop-vertex l = (other : List ℕ) → Contains l.many.keys other ↔ Contains (take l.vertex-index l.few) other
