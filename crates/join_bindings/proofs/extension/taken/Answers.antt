use Rattle.std.proofs.Common.{◌≡◌, ◌+◌, ℕ, List, [], ◌∷◌, ◌++◌, Bor, take, get_or, refl, sym, ap, subst, ◌∙◌, inl, ⊎_elim}
use Rattle.std.specs.Prelude.{Contains}
use Rattle.std.proofs.lemmas.List.{take_all}
use Rattle.rpq_base.proofs.Members.{none_in, cons_members, next_given}
use Rattle.join_file.specs.declared.data.JoinAtom.{JoinAtom}
use Rattle.join_bindings.specs.Overlaps.{Narrows}
use Rattle.join_bindings.specs.Partial.{Bound, Agrees, Covers, ClosesAll, IsMetIn, AreMet, atoms_at}
use Rattle.join_file.specs.Sound.{IsAtomWithin}
use Rattle.std.proofs.lemmas.List.Elements.{Contains-get_or}
use Rattle.join_bindings.proofs.Extending.{atoms_more, atoms_all, closes_more, at_place}
use Rattle.join_bindings.proofs.extension.taken.Goals as goal

pub loop-atom-init : goal.loop-atom-init
loop-atom-init c =
    let bound = c.args.bound in
    let items : c.push.new.self.items ≡ bound ∷ [] = c.in_ok-push.ensures.items ∙ ap (λ (all : List Bound). all ++ bound ∷ []) c.new-all.ensures.items in
    let alone : (each : Bound) → Contains c.push.new.self.items each → bound ≡ each =
    λ each member. ⊎_elim (λ is. is) (λ none. absurd (none_in each none))
    ((cons_members bound [] each).0 (subst (λ (all : List Bound). Contains all each) items member)) in
    record {
      covers = λ names. record {
        only = λ covers. (
          subst (λ (each : Bound). Agrees each names) (sym (alone covers.0 covers.1)) covers.2,
          λ atom member. absurd (none_in atom member),
        );
        all = λ are both. (bound, subst (λ (all : List Bound). Contains all bound) (sym items) ((cons_members bound [] bound).1 (inl refl)), both.0);
      };
      closes = λ more member. subst (ClosesAll bound []) (alone more member) (record {
        as_many = refl;
        leaves = λ number open_. (open_, λ atom none mentions. none_in atom none);
      });
    }

pub extended-requires-clause-within : goal.extended-requires-clause-within
extended-requires-clause-within c = λ k d below.
    let one = c.atom-item.result in
    let member = at_place c.args.atoms.now c.loop-atom.atom-index one c.loop-atom-test.true c.atom-item.is in
    let items = c.deref.result.now in
    let among : Contains c.loop-atom.all.items (get_or items k d) =
    subst (λ (list : List Bound). Contains list (get_or items k d)) c.deref.ensures.value (Contains-get_or items k d below) in
    let closes = c.loop-atom.invariant.closes (get_or items k d) among in
    subst (λ (count : ℕ). IsAtomWithin count one.now) (sym closes.as_many) (c.requires.within one.now member)

pub extended-requires-clause-below : goal.extended-requires-clause-below
extended-requires-clause-below c =
    c.requires.below c.atom-item.result.now (at_place c.args.atoms.now c.loop-atom.atom-index c.atom-item.result c.loop-atom-test.true c.atom-item.is)

pub loop-atom-preserved : goal.loop-atom-preserved
loop-atom-preserved c =
    let atoms = c.args.atoms.now in
    let sets = c.args.sets.now in
    let bound = c.args.bound in
    let index = c.loop-atom.atom-index in
    let one = c.atom-item.result in
    let all = c.loop-atom.all.items in
    let step = next_given (λ (atom : Bor JoinAtom). atom.now) atoms index one c.loop-atom-test.true c.atom-item.is in
    record {
      covers = λ names.
          atoms_more sets (atoms_at atoms) (atoms_at (take index atoms)) (atoms_at (take (index + 1) atoms)) one.now names (Covers all names)
          (Covers c.in_ok-all.all.items names) (Agrees bound names) step
          (subst (λ (list : List Bound). Narrows sets (atoms_at atoms) names (Covers list names × IsMetIn sets names one.now) (Covers c.in_ok-all.all.items names))
          c.deref.ensures.value (c.in_ok-all.ensures.covers names))
          (c.loop-atom.invariant.covers names);
      closes = λ more member.
          let found = c.in_ok-all.ensures.closes more member in
          closes_more (atoms_at (take index atoms)) (atoms_at (take (index + 1) atoms)) one.now bound found.0 more step
          (c.loop-atom.invariant.closes found.0 (subst (λ (list : List Bound). Contains list found.0) c.deref.ensures.value found.1)) found.2;
    }

pub returns-clause-covers : goal.returns-clause-covers
returns-clause-covers c = λ names.
    let sets = c.args.sets.now in
    let atoms = c.args.atoms.now in
    let all = Covers c.loop-atom.all.items names in
    let agree = Agrees c.args.bound names in
    atoms_all sets (atoms_at atoms) names all agree
    (subst (λ (list : List (Bor JoinAtom)). Narrows sets (atoms_at atoms) names (agree × AreMet sets names (atoms_at list)) all)
    (take_all c.loop-atom.atom-index atoms c.loop-atom-test.false) (c.loop-atom.invariant.covers names))

pub returns-clause-closes : goal.returns-clause-closes
returns-clause-closes c = λ more member.
    subst (λ (list : List (Bor JoinAtom)). ClosesAll c.args.bound (atoms_at list) more)
    (take_all c.loop-atom.atom-index c.args.atoms.now c.loop-atom-test.false) (c.loop-atom.invariant.closes more member)
