use Rattle.std.proofs.Common.{◌≡◌, ◌<◌, List, [], ◌∷◌, ◌++◌, Bor, length, get_or, refl, ap, subst, sym, ◌∙◌, ◌⊎◌, inl, inr, ⊎_elim, arith}
use Rattle.std.specs.Prelude.{◌↔◌, Contains}
use Rattle.std.proofs.lemmas.Bool.Decides.{nat_tests}
use Rattle.std.proofs.lemmas.List.{nil_from_length}
use Rattle.rpq_base.proofs.Members.{none_in}
use Rattle.join_file.specs.declared.data.JoinAtom.{JoinAtom}
use Rattle.join_bindings.specs.Partial.{atoms_at}
use Rattle.join_bindings.specs.Turn.{IsNext, AreInTurn}
use Rattle.join_bindings.proofs.Turning.{left_atoms, turn_more, atoms_pushed, more_members}
use Rattle.join_bindings.proofs.plan.planned.Goals as goal

pub loop-plan-preserved : goal.loop-plan-preserved
loop-plan-preserved c =
    let plan : List (Bor JoinAtom) = c.loop-plan.plan.items in
    let left : List (Bor JoinAtom) = c.loop-plan.left.items in
    let rest : List (Bor JoinAtom) = c.remove.new.self.items in
    let atom : Bor JoinAtom = c.remove.result in
    let place = c.next_place-next.result in
    let first = c.args.first.now in
    let within : place < length left = subst (λ (list : List (Bor JoinAtom)). place < length list) c.deref-in-loop-plan.ensures.value c.next_place-next.ensures.within in
    let is : get_or left place atom ≡ atom = sym c.remove.ensures.value in
    let split = left_atoms left rest place atom within is c.remove.ensures.items in
    let grown : atoms_at c.push.new.self.items ≡ atoms_at plan ++ atom.now ∷ [] =
    ap atoms_at c.in_ok-push.ensures.items ∙ atoms_pushed plan atom in
    let next : IsNext (first ∷ atoms_at plan) atom.now (atoms_at left) =
    subst (λ (list : List (Bor JoinAtom)). IsNext (first ∷ atoms_at list) atom.now (atoms_at left)) c.deref.ensures.value
    (subst (λ (list : List (Bor JoinAtom)). IsNext (first ∷ atoms_at c.deref.result.now) atom.now (atoms_at list)) c.deref-in-loop-plan.ensures.value
    (c.next_place-next.ensures.least atom
    (subst (λ (list : List (Bor JoinAtom)). get_or list place atom ≡ atom) (sym c.deref-in-loop-plan.ensures.value) is))) in
    record {
      members = λ other.
          let was = c.loop-plan.invariant.members other in
          subst (λ (list : List JoinAtom). (Contains list other ⊎ Contains (atoms_at rest) other) ↔ Contains c.args.atoms.now other) (sym grown)
          (more_members (atoms_at plan) (atoms_at left) (atoms_at rest) atom.now other (Contains c.args.atoms.now other) (split other) was);
      turn = subst (λ (list : List JoinAtom). AreInTurn (first ∷ []) list (atoms_at rest)) (sym grown)
          (turn_more (atoms_at plan) (first ∷ []) (atoms_at left) (atoms_at rest) atom.now c.loop-plan.invariant.turn next
          (λ other member. (split other).1 (inl member)) ((split atom.now).1 (inr refl)));
    }

pub returns-clause-members : goal.returns-clause-members
returns-clause-members c = λ atom.
    let left : List (Bor JoinAtom) = c.loop-plan.left.items in
    let none : left ≡ [] = nil_from_length left (grind (arith, nat_tests)) in
    let was = c.loop-plan.invariant.members atom in (
      (λ member. was.0 (inl member)),
      (λ member. ⊎_elim
          (λ there. there)
          (λ here. absurd (none_in atom (subst (λ (list : List (Bor JoinAtom)). Contains (atoms_at list) atom) none here)))
          (was.1 member)),
    )

pub returns-clause-turn : goal.returns-clause-turn
returns-clause-turn c =
    let left : List (Bor JoinAtom) = c.loop-plan.left.items in
    let none : left ≡ [] = nil_from_length left (grind (arith, nat_tests)) in
    subst (λ (list : List (Bor JoinAtom)). AreInTurn (c.args.first.now ∷ []) (atoms_at c.loop-plan.plan.items) (atoms_at list)) none
    c.loop-plan.invariant.turn
