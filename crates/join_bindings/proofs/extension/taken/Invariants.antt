use Rattle.std.specs.Prelude.{Contains, List, ℕ}
use Rattle.std.proofs.Common.{take}
use Rattle.join_bindings.specs.Overlaps.{Narrows}
use Rattle.join_bindings.specs.Partial.{Bound, Agrees, Covers, AreMet, ClosesAll, atoms_at}
use Rattle.join_bindings.proofs.extension.taken.Given as goal

-- the atoms so far are taken
abbrev pub invariant-loop-atom : goal.invariant-loop-atom
invariant-loop-atom l = record {
  covers : (names : List (List ℕ)) → Narrows l.sets (atoms_at l.atoms) names
      (Agrees l.fn.bound names × AreMet l.sets names (atoms_at (take l.atom-index l.atoms))) (Covers l.all.items names);
  closes : (more : Bound) → Contains l.all.items more → ClosesAll l.fn.bound (atoms_at (take l.atom-index l.atoms)) more;
}
