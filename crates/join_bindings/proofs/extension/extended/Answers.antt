use Rattle.std.proofs.Common.{◌+◌, List, length, take, sym, subst, ⊎_elim}
use Rattle.std.specs.Prelude.{Contains}
use Rattle.std.proofs.lemmas.List.{take_all}
use Rattle.rpq_base.proofs.Members.{none_in, next_one}
use Rattle.join_bindings.specs.Overlaps.{Narrows}
use Rattle.join_bindings.specs.Partial.{Bound, Covers, IsMetIn, atoms_at}
use Rattle.join_file.specs.Sound.{IsAtomWithin}
use Rattle.join_bindings.proofs.Extending.{narrows_none, narrows_more}
use Rattle.join_bindings.proofs.extension.extended.Goals as goal

pub loop-bound-init : goal.loop-bound-init
loop-bound-init c = record {
  covers = λ names.
      narrows_none c.args.sets.now (atoms_at c.args.atoms.now) names c.new-all.result.items (IsMetIn c.args.sets.now names c.args.atom.now) c.new-all.ensures.items;
  closes = λ more member. absurd (none_in more (subst (λ (items : List Bound). Contains items more) c.new-all.ensures.items member));
}

pub loop-bound-preserved : goal.loop-bound-preserved
loop-bound-preserved c =
    let partials = c.args.partials.now in
    let index = c.loop-bound.bound-index in
    let one = c.bound-item.result in
    let step = next_one partials index one c.loop-bound-test.true c.bound-item.is in
    record {
      covers = λ names.
          narrows_more c.args.sets.now (atoms_at c.args.atoms.now) names (take index partials) (take (index + 1) partials) one
          (Covers c.loop-bound.all.items names) (Covers c.extend.new.out.items names) (IsMetIn c.args.sets.now names c.args.atom.now) step
          (c.in_ok-extend.ensures.covers names) (c.loop-bound.invariant.covers names);
      closes = λ more member. ⊎_elim
          (λ there. let found = c.loop-bound.invariant.closes more there in (found.0, step.still found.0 found.1, found.2))
          (λ closes. (one, step.here, closes))
          (c.in_ok-extend.ensures.closes more member);
    }

pub extend-requires-clause-within : goal.extend-requires-clause-within
extend-requires-clause-within c =
    subst (λ (bound : Bound). IsAtomWithin (length bound) c.args.atom.now) (sym c.bound-item.is)
    (c.requires.within c.loop-bound.bound-index c.bound-item.result c.loop-bound-test.true)

pub returns-clause-covers : goal.returns-clause-covers
returns-clause-covers c = λ names.
    subst (λ (list : List Bound). Narrows c.args.sets.now (atoms_at c.args.atoms.now) names
    (Covers list names × IsMetIn c.args.sets.now names c.args.atom.now) (Covers c.loop-bound.all.items names))
    (take_all c.loop-bound.bound-index c.args.partials.now c.loop-bound-test.false) (c.loop-bound.invariant.covers names)

pub returns-clause-closes : goal.returns-clause-closes
returns-clause-closes c = λ more member.
    let found = c.loop-bound.invariant.closes more member in (
      found.0,
      subst (λ (list : List Bound). Contains list found.0) (take_all c.loop-bound.bound-index c.args.partials.now c.loop-bound-test.false) found.1,
      found.2,
    )
