use Rattle.std.proofs.Common.{◌≡◌, take}
use Rattle.join_bindings.specs.Partial.{atoms_at}
use Rattle.join_bindings.proofs.plan.references.Given as goal

-- the atoms so far
abbrev pub invariant-loop-atom : goal.invariant-loop-atom
invariant-loop-atom l = atoms_at l.plan.items ≡ take l.atom-index l.atoms
