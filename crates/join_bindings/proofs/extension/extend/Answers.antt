use Rattle.std.proofs.Common.{◌≡◌, ◌+◌, List, take, subst, ◌∙◌, ◌⊎◌, inr, ⊎_elim}
use Rattle.std.specs.Prelude.{◌↔◌}
use Rattle.std.proofs.lemmas.List.{take_all}
use Rattle.rpq_base.proofs.Members.{next_one}
use Rattle.rpq_base.specs.declared.data.Pair.{Pair}
use Rattle.join_bindings.specs.Partial.{Agrees, Covers, Fits, IsMetBy, atoms_at}
use Rattle.join_bindings.proofs.Extending.{met_more, met_by_sufficient}
use Rattle.join_bindings.proofs.extension.extend.Goals as goal

pub loop-ends-preserved : goal.loop-ends-preserved
loop-ends-preserved c =
    let items : List Pair = c.deref-ends-items.result.now in
    let index = c.loop-ends.ends-index in
    let one : Pair = c.ends-item.result in
    let step = next_one items index one c.loop-ends-test.true c.ends-item.is in
    record {
      covers = λ names.
          met_more (take index items) (take (index + 1) items) one names c.args.atom.now
          (Covers c.args.out.now.items names) (Covers c.loop-ends.out.items names) (Covers c.add_pair.new.out.items names) (Agrees c.args.bound.now names)
          step (c.in_ok-add_pair.ensures.covers names) (c.loop-ends.invariant.covers names);
      closes = λ more member. ⊎_elim (λ before. c.loop-ends.invariant.closes more before) (λ closes. inr closes) (c.in_ok-add_pair.ensures.closes more member);
    }

pub returns-clause-covers : goal.returns-clause-covers
returns-clause-covers c = λ names.
    let items : List Pair = c.deref-ends-items.result.now in
    let found : List Pair = c.in_ok-found.found.items in
    let atom = c.args.atom.now in
    let old = Covers c.args.out.now.items names in
    let new = Covers c.loop-ends.out.items names in
    let agree = Agrees c.args.bound.now names in
    let all : take c.loop-ends.ends-index items ≡ found =
    take_all c.loop-ends.ends-index items c.loop-ends-test.false ∙ c.deref-ends-items.ensures.value in
    met_by_sufficient c.args.sets.now (atoms_at c.args.atoms.now) atom
    (λ (each : Pair). Fits c.so_far-from.result each.from × Fits c.so_far-to.result each.to) found names old new agree c.in_ok-found.ensures
    (λ agrees pair of. (c.so_far-from.ensures names agrees pair.from of.from, c.so_far-to.ensures names agrees pair.to of.to))
    (subst (λ (list : List Pair). new ↔ (old ⊎ (agree × IsMetBy list names atom))) all (c.loop-ends.invariant.covers names))
