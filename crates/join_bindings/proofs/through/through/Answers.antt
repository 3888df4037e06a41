use Rattle.std.proofs.Common.{◌≡◌, ◌<◌, ℕ, List, length, get_or, Vec, Global, sym, ap, subst, ◌∙◌}
use Rattle.std.specs.Prelude.{◌↔◌, Contains}
use Rattle.std.proofs.lemmas.Result.{IfOk-weaker}
use Rattle.std.proofs.lemmas.List.Elements.{Contains-get_or, All-contains}
use Rattle.join_file.specs.declared.data.JoinAtom.{JoinAtom}
use Rattle.join_file.specs.Joins.{JoinValue}
use Rattle.join_bindings.specs.Partial.{Bound, Agrees, Covers, Takes, MayTake, AreMet, IsThrough}
use Rattle.join_bindings.specs.Partial.{atoms_at}
use Rattle.join_file.specs.Sound.{IsAtomWithin}
use Rattle.join_bindings.proofs.Closed.{through_is, through_full, plan_atoms, closes_same, met_same}
use Rattle.join_bindings.proofs.through.through.Goals as goal

pub taken-requires-clause-within : goal.taken-requires-clause-within
taken-requires-clause-within c = λ atom member.
    let def = c.args.def.now in
    let same = plan_atoms c.in_ok-plan-in-Some.plan.items c.deref-in-Some.result.now c.deref.result.now def.atoms c.deref-in-Some.ensures.value
    (c.deref.ensures.value ∙ ap (λ (join : JoinValue). join.atoms) c.def.view_is) c.in_ok-plan-in-Some.ensures.members in
    let blank = c.in_ok-blank.blank in
    let bound = c.in-Some.bound in
    let takes : Takes blank c.args.atom.now c.args.pair.now bound = subst (MayTake blank c.args.atom.now c.args.pair.now) c.in-Some.is c.in_ok-bound.ensures in
    let many : length blank ≡ def.variables = c.in_ok-blank.ensures.many ∙ ap (λ (join : JoinValue). join.variables) c.def.view_is in
    subst (λ (count : ℕ). IsAtomWithin count atom) (sym (takes.closes.as_many ∙ many))
    (All-contains (IsAtomWithin def.variables) def.atoms atom c.requires.within ((same atom).0 member))

pub taken-requires-clause-below : goal.taken-requires-clause-below
taken-requires-clause-below c = λ atom member.
    let def = c.args.def.now in
    let same = plan_atoms c.in_ok-plan-in-Some.plan.items c.deref-in-Some.result.now c.deref.result.now def.atoms c.deref-in-Some.ensures.value
    (c.deref.ensures.value ∙ ap (λ (join : JoinValue). join.atoms) c.def.view_is) c.in_ok-plan-in-Some.ensures.members in
    All-contains (λ (each : JoinAtom). each.query < length c.args.sets.now) def.atoms atom c.requires.below ((same atom).0 member)

pub closed-requires : goal.closed-requires
closed-requires c = λ k d below.
    let def = c.args.def.now in
    let same = plan_atoms c.in_ok-plan-in-Some.plan.items c.deref-in-Some.result.now c.deref.result.now def.atoms c.deref-in-Some.ensures.value
    (c.deref.ensures.value ∙ ap (λ (join : JoinValue). join.atoms) c.def.view_is) c.in_ok-plan-in-Some.ensures.members in
    let items = c.deref-in-Some-2.result.now in
    let blank = c.in_ok-blank.blank in
    let bound = c.in-Some.bound in
    let takes : Takes blank c.args.atom.now c.args.pair.now bound = subst (MayTake blank c.args.atom.now c.args.pair.now) c.in-Some.is c.in_ok-bound.ensures in
    let many : length blank ≡ def.variables = c.in_ok-blank.ensures.many ∙ ap (λ (join : JoinValue). join.variables) c.def.view_is in
    let member = subst (λ (list : List Bound). Contains list (get_or items k d)) c.deref-in-Some-2.ensures.value (Contains-get_or items k d below) in
    through_full def c.args.atom.now c.args.pair.now blank bound (get_or items k d) takes many c.requires.all
    (closes_same bound (get_or items k d) (atoms_at c.deref-in-Some.result.now) def.atoms same (c.in_ok-taken-in-Some.ensures.closes (get_or items k d) member))

pub returns-in-Some : goal.returns-in-Some
returns-in-Some c =
    let def = c.args.def.now in
    let same = plan_atoms c.in_ok-plan-in-Some.plan.items c.deref-in-Some.result.now c.deref.result.now def.atoms c.deref-in-Some.ensures.value
    (c.deref.ensures.value ∙ ap (λ (join : JoinValue). join.atoms) c.def.view_is) c.in_ok-plan-in-Some.ensures.members in
    let atom = c.args.atom.now in
    let pair = c.args.pair.now in
    let sets = c.args.sets.now in
    let items = c.deref-in-Some-2.result.now in
    let blank = c.in_ok-blank.blank in
    let bound = c.in-Some.bound in
    let takes : Takes blank atom pair bound = subst (MayTake blank atom pair) c.in-Some.is c.in_ok-bound.ensures in
    let variables_are = ap (λ (join : JoinValue). join.variables) c.def.view_is in
    IfOk-weaker c.closed.result
    (λ (found : Vec (List (List ℕ)) Global). (names : List (List ℕ)) → Contains found.items names ↔ Covers items names)
    (λ (found : Vec (List (List ℕ)) Global). (names : List (List ℕ)) → Contains found.items names ↔ IsThrough sets def atom pair names)
    (λ found is names.
    let covered : Covers items names ↔ (Agrees bound names × AreMet sets names (atoms_at c.deref-in-Some.result.now)) =
    subst (λ (list : List Bound). Covers list names ↔ (Agrees bound names × AreMet sets names (atoms_at c.deref-in-Some.result.now))) (sym c.deref-in-Some-2.ensures.value)
    (c.in_ok-taken-in-Some.ensures.covers names) in
    let met = met_same sets names (atoms_at c.deref-in-Some.result.now) def.atoms same in
    through_is sets def atom pair blank bound names (Contains found.items names) (
      (λ member. let both = covered.0 ((is names).0 member) in (both.0, met.0 both.1)),
      (λ both. (is names).1 (covered.1 (both.0, met.1 both.1))),
    )
    takes (subst (λ (count : ℕ). Agrees blank names ↔ (length names ≡ count)) variables_are (c.in_ok-blank.ensures.all names)))
    c.closed.ensures
