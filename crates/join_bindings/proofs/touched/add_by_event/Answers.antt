use Rattle.std.proofs.Common.{◌≡◌, ◌+◌, List, take, ap, subst, ◌∙◌, ◌⊎◌}
use Rattle.std.specs.Prelude.{◌↔◌, Contains}
use Rattle.std.proofs.lemmas.List.{take_all}
use Rattle.rpq_base.proofs.Members.{next_one}
use Rattle.join_file.specs.declared.data.JoinAtom.{JoinAtom}
use Rattle.join_file.specs.Joins.{JoinValue}
use Rattle.join_bindings.specs.Touched.{IsThroughAtom, IsThroughEvent}
use Rattle.join_bindings.proofs.Extending.{some_more}
use Rattle.join_bindings.proofs.touched.add_by_event.Goals as goal

pub loop-atom-preserved : goal.loop-atom-preserved
loop-atom-preserved c = λ names.
    let atoms = c.deref-atom-items.result.now in
    let index = c.loop-atom.atom-index in
    let one = c.atom-item.result in
    some_more (λ (atom : JoinAtom). IsThroughAtom c.args.sets.now c.args.def.now c.args.event.now atom names) (take index atoms) (take (index + 1) atoms) one
    (Contains c.args.found.now.items names) (Contains c.loop-atom.found.items names) (Contains c.add_by_atom.new.found.items names)
    (next_one atoms index one c.loop-atom-test.true c.atom-item.is) (c.in_ok-add_by_atom.ensures names) (c.loop-atom.invariant names)

pub returns : goal.returns
returns c = λ names.
    let atoms = c.deref-atom-items.result.now in
    let all : take c.loop-atom.atom-index atoms ≡ c.args.def.now.atoms =
    take_all c.loop-atom.atom-index atoms c.loop-atom-test.false ∙ (c.deref-atom-items.ensures.value ∙ ap (λ (join : JoinValue). join.atoms) c.def.view_is) in
    subst (λ (list : List JoinAtom). Contains c.loop-atom.found.items names
    ↔ (Contains c.args.found.now.items names ⊎ IsThroughEvent c.args.sets.now c.args.def.now list c.args.event.now names)) all (c.loop-atom.invariant names)
