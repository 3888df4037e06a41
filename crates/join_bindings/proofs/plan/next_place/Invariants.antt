use Rattle.std.proofs.Common.{◌<◌, ◌∷◌, length}
use Rattle.join_bindings.specs.Partial.{atoms_at}
use Rattle.join_bindings.proofs.Turning.{LeastBefore}
use Rattle.join_bindings.proofs.plan.next_place.Given as goal

-- the best so far has no more open ends than those before
abbrev pub invariant-loop-place : goal.invariant-loop-place
invariant-loop-place l = record {
  within : l.best < length l.left;
  least : LeastBefore (l.first ∷ atoms_at l.plan) l.left l.best l.place;
}
