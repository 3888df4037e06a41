use Rattle.std.proofs.Common.{[], ◌∷◌, ◌⊎◌, length}
use Rattle.std.specs.Prelude.{◌↔◌, Contains}
use Rattle.join_file.specs.declared.data.JoinAtom.{JoinAtom}
use Rattle.join_bindings.specs.Partial.{atoms_at}
use Rattle.join_bindings.specs.Turn.{AreInTurn}
use Rattle.join_bindings.proofs.plan.planned.Given as goal

-- the plan and what is left are all atoms, and the plan is in turn
abbrev pub invariant-loop-plan : goal.invariant-loop-plan
invariant-loop-plan l = record {
  members : (atom : JoinAtom) →
      (Contains (atoms_at l.plan.items) atom ⊎ Contains (atoms_at l.left.items) atom) ↔ Contains l.atoms atom;
  turn : AreInTurn (l.first ∷ []) (atoms_at l.plan.items) (atoms_at l.left.items);
}

-- the atoms that are left
abbrev pub decreases-loop-plan : goal.decreases-loop-plan
decreases-loop-plan l = length l.left.items
