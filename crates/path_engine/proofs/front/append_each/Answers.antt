use Rattle.std.proofs.Common.{◌≡◌, ◌+◌, ◌++◌, ◌∷◌, [], ℕ, List, length, Vec, Global, refl}
use Rattle.std.proofs.Common.{sym, ap, ◌∙◌, arith, length-append}
use Rattle.std.proofs.lemmas.List.{length-map}
use Rattle.end_events.specs.declared.numbered_event.NumberedEvent.{NumberedEvent}
use Rattle.path_engine.specs.Front.{joined, put_at}
use Rattle.path_engine.proofs.Fronts.{items_of, items_push, joined_more, joined_nothing, yielded_all, yielded_more}
use Rattle.path_engine.proofs.front.append_each.Goals as goal

pub loop-own-init : goal.loop-own-init
loop-own-init c =
    let gives = c.into_iter-own-iterator.ensures.into_iter_gives in (
      tt,
      tt,
      gives.0,
      omega (arith, gives.1, ap length gives.0),
      refl,
      sym (joined_nothing (items_of c.args.events.now.items)),
    )

-- how many lists came so far
so_far : (c : goal.In_ok-put_own) → c.loop-own.place + 1 + length c.next.new.self.rest.items ≡ length c.args.owns.items
so_far c =
    let was = c.loop-own.invariant in
    let steps = c.in-Some.ensures.steps in
    omega (
      arith,
      was.4,
      ap (λ (xs : List (Vec NumberedEvent Global)). length xs) was.2,
      ap (λ (xs : List (Vec NumberedEvent Global)). length xs) steps.0,
      length-append c.loop-own.yielded c.loop-own.own-iterator.rest.items,
    )

pub overflow_add-place : goal.overflow_add-place
overflow_add-place c =
    let owns = c.args.owns in
    record { fits = omega (arith, so_far c, owns.ok.0, owns.ok.1, owns.small) }

pub loop-own-preserved : goal.loop-own-preserved
loop-own-preserved c =
    let was = c.loop-own.invariant in
    let steps = c.in-Some.ensures.steps in
    let yielded = c.loop-own.yielded in
    let own = c.in-Some.own in
    let olds = items_of c.args.events.now.items in
    let many : c.loop-own.place ≡ length (items_of yielded) =
    was.4 ∙ sym (length-map yielded (λ (each : Vec NumberedEvent Global). each.items)) in (
      tt,
      tt,
      yielded_more yielded c.next.new.self.rest.items c.loop-own.own-iterator.rest.items
          c.args.owns.items own was.2 steps.0,
      omega (arith, was.3, steps.1, ap (λ (xs : List (Vec NumberedEvent Global)). length xs) steps.0),
      omega (arith, was.4, length-append yielded (own ∷ [])),
      c.in_ok-put_own.ensures
          ∙ (ap (λ (all : List (List NumberedEvent)). put_at c.loop-own.place all own.items) was.5
          ∙ (ap (λ (place : ℕ). put_at place (joined olds (items_of yielded)) own.items) many
          ∙ (sym (joined_more olds (items_of yielded) own.items)
          ∙ ap (joined olds) (sym (items_push yielded (yielded ++ own ∷ []) own refl))))),
    )

pub returns : goal.returns
returns c =
    let was = c.loop-own.invariant in
    was.5
    ∙ ap (λ (all : List (Vec NumberedEvent Global)). joined (items_of c.args.events.now.items) (items_of all))
    (yielded_all c.loop-own.yielded c.loop-own.own-iterator.rest.items c.args.owns.items was.2
    (omega (arith, was.3, c.in-None.ensures.steps.0)))
