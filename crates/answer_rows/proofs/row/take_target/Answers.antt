use Rattle.std.proofs.Common.{List, get_or, sym, subst, ◌∙◌}
use Rattle.std.specs.Prelude.{IsTrue}
use Rattle.std.proofs.lemmas.Map.Lookups.{exact_bytes}
use Rattle.answer_rows.specs.Answers.{AreTargets, has_target}
use Rattle.answer_rows.specs.declared.target.Target.{Target}
use Rattle.answer_rows.proofs.Edited.{remove_is_without, not_there}
use Rattle.answer_rows.proofs.row.take_target.Goals as goal

pub returns-in-Ok-clause-row : goal.returns-in-Ok-clause-row
returns-in-Ok-clause-row c =
    let targets = c.deref.result.now in
    let place = c.in-Ok.place in
    let to = c.args.to.now in
    let taken : Target = c.remove.result in
    let sorted = subst AreTargets (sym c.deref.ensures.value) c.requires.sorted in
    c.remove.ensures.items
    ∙ rw (← c.deref.ensures.value)
    (remove_is_without targets place to taken sorted c.in-Ok.ensures.within
    (exact_bytes (get_or targets place taken).to to (c.in-Ok.ensures.place taken)))

pub returns-in_default-clause-row : goal.returns-in_default-clause-row
returns-in_default-clause-row c =
    let sorted = subst AreTargets (sym c.deref.ensures.value) c.requires.sorted in
    let there = subst (λ (row : List Target). IsTrue (has_target row c.args.to.now)) (sym c.deref.ensures.value) c.requires.there in
    absurd (not_there c.deref.result.now c.in_default.field-0 c.args.to.now sorted c.in_default.ensures.within c.in_default.ensures.place there)

pub returns-in_default-clause-lost : goal.returns-in_default-clause-lost
returns-in_default-clause-lost c =
    let sorted = subst AreTargets (sym c.deref.ensures.value) c.requires.sorted in
    let there = subst (λ (row : List Target). IsTrue (has_target row c.args.to.now)) (sym c.deref.ensures.value) c.requires.there in
    absurd (not_there c.deref.result.now c.in_default.field-0 c.args.to.now sorted c.in_default.ensures.within c.in_default.ensures.place there)
