use Rattle.std.specs.Prelude.{Contains, List, ℕ}
use Rattle.std.proofs.Common.{take}
use Rattle.join_bindings.specs.Overlaps.{Narrows}
use Rattle.join_bindings.specs.Partial.{Bound, Covers, Closes, IsMetIn, atoms_at}
use Rattle.join_bindings.proofs.extension.extended.Given as goal

-- what those so far give
abbrev pub invariant-loop-bound : goal.invariant-loop-bound
invariant-loop-bound l = record {
  covers : (names : List (List ℕ)) → Narrows l.sets (atoms_at l.atoms) names
      (Covers (take l.bound-index l.partials) names × IsMetIn l.sets names l.atom) (Covers l.all.items names);
  closes : (more : Bound) → Contains l.all.items more → (bound : Bound) × Contains (take l.bound-index l.partials) bound × Closes bound l.atom more;
}
