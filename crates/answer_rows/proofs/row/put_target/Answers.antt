use Rattle.std.proofs.Common.{◌≡◌, ℕ, List, get_or, sym, ap, subst, ◌∙◌}
use Rattle.std.specs.List.{insert}
use Rattle.std.specs.Prelude.{set}
use Rattle.std.proofs.lemmas.Map.Lookups.{exact_bytes}
use Rattle.answer_rows.specs.Answers.{AreTargets}
use Rattle.answer_rows.specs.RowEdits.{target}
use Rattle.answer_rows.specs.declared.target.Target.{Target}
use Rattle.answer_rows.proofs.Edited.{set_is_with, gap_is_with}
use Rattle.answer_rows.proofs.Places.{to_of}
use Rattle.answer_rows.proofs.row.put_target.Goals as goal

pub returns-in-Ok-clause-row : goal.returns-in-Ok-clause-row
returns-in-Ok-clause-row c =
    let targets = c.deref.result.now in
    let place = c.in-Ok.place in
    let to = c.args.to.now in
    let here : Target = c.index_mut.result.now in
    let is : (get_or targets place here).to ≡ to = exact_bytes (get_or targets place here).to to (c.in-Ok.ensures.place here) in
    let found : here ≡ get_or targets place here =
    c.index_mut.ensures.value ∙ ap (λ (all : List Target). get_or all place here) (sym c.deref.ensures.value) in
    let sorted = subst AreTargets (sym c.deref.ensures.value) c.requires in
    rw (← c.deref.ensures.value)
    (ap (λ (name : List ℕ). set targets place (target name c.args.until)) (ap to_of found ∙ is)
    ∙ set_is_with targets place to c.args.until here sorted c.in-Ok.ensures.within is)

pub returns-in_ok-insert-in-Err-clause-row : goal.returns-in_ok-insert-in-Err-clause-row
returns-in_ok-insert-in-Err-clause-row c =
    let targets = c.deref.result.now in
    let gap = c.in-Err.place in
    let sorted = subst AreTargets (sym c.deref.ensures.value) c.requires in
    c.in_ok-insert-in-Err.ensures.items
    ∙ rw (← c.deref.ensures.value)
    (ap (λ (to : List ℕ). insert targets gap (target to c.args.until)) c.in_ok-to-in-Err.ensures
    ∙ gap_is_with targets gap c.args.to.now c.args.until sorted c.in-Err.ensures.within c.in-Err.ensures.place)
