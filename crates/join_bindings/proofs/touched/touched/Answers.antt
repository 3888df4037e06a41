use Rattle.std.proofs.Common.{◌≡◌, ℕ, List, sym, subst, inl, inr, ⊎_elim}
use Rattle.std.specs.Prelude.{◌↔◌, Contains}
use Rattle.std.proofs.lemmas.List.{take_all}
use Rattle.rpq_base.proofs.Members.{none_in, next_one}
use Rattle.rpq_base.specs.declared.data.Event.{Event}
use Rattle.join_bindings.specs.Touched.{IsThroughEvent, IsThroughKind}
use Rattle.join_bindings.proofs.touched.touched.Goals as goal

pub loop-event-init : goal.loop-event-init
loop-event-init c = λ names. (
  (λ member. absurd (none_in names (subst (λ (items : List (List (List ℕ))). Contains items names) c.new-found.ensures.items member))),
  (λ some. absurd (none_in some.0 some.1)),
)

pub loop-event-preserved : goal.loop-event-preserved
loop-event-preserved c = λ names.
    let events = c.args.events.now in
    let index = c.loop-event.event-index in
    let one = c.event-item.result in
    let sets = c.args.sets.now in
    let def = c.args.def.now in
    let step = next_one events index one c.loop-event-test.true c.event-item.is in
    let now = c.in_ok-add_if.ensures names in
    let so_far = c.loop-event.invariant names in (
      (λ new. ⊎_elim
          (λ mid. let some = so_far.0 mid in (some.0, step.still some.0 some.1, some.2, some.3))
          (λ here. (one, step.here, here.0, here.1))
          (now.0 new)),
      (λ some. now.1 (⊎_elim
          (λ there. inl (so_far.1 (some.0, there, some.2, some.3)))
          (λ here. inr (
            subst (λ (event : Event). event.added ≡ c.args.added) (sym here) some.2,
            subst (λ (event : Event). IsThroughEvent sets def def.atoms event names) (sym here) some.3,
          ))
          (step.cases some.0 some.1))),
    )

pub returns : goal.returns
returns c = λ names.
    subst (λ (list : List Event). Contains c.loop-event.found.items names ↔ IsThroughKind c.args.sets.now c.args.def.now c.args.added list names)
    (take_all c.loop-event.event-index c.args.events.now c.loop-event-test.false) (c.loop-event.invariant names)
