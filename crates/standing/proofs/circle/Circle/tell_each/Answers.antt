use Rattle.std.proofs.Common.{◌+◌, List, ◌∷◌, [], ◌++◌, take, drop, sym, ap, subst, ◌∙◌, take-append-drop}
use Rattle.std.proofs.lemmas.List.{take_more, drop_more}
use Rattle.rpq_base.specs.declared.data.Event.{Event}
use Rattle.standing.specs.Circles.{as_seen, TellsEach}
use Rattle.standing.proofs.Outcomes.{on_err}
use Rattle.standing.proofs.Telling.{each_more}
use Rattle.standing.proofs.circle.Circle.tell_each.Goals as goal

pub returns-in_err-tell_all-clause-err : goal.returns-in_err-tell_all-clause-err
returns-in_err-tell_all-clause-err g c =
    let events = c.args.events.now in
    let place = c.loop-event.event-index in
    let event = c.event-item.result in
    on_err c.from_residual.result (record {
      front = take place events;
      event = event;
      rest = drop (place + 1) events;
      between = as_seen g.S.Standing.seen c.loop-event.self;
      split = sym (take-append-drop place events)
          ∙ ap (λ (list : List Event). take place events ++ list)
          (drop_more events place event c.loop-event-test.true ∙ ap (λ (each : Event). each ∷ drop (place + 1) events) (sym c.event-item.is));
      each = c.loop-event.invariant;
      some = c.in_err-tell_all.ensures.err;
    })

pub loop-event-preserved : goal.loop-event-preserved
loop-event-preserved g c =
    let events = c.args.events.now in
    let place = c.loop-event.event-index in
    let event = c.event-item.result in
    let old = as_seen g.S.Standing.seen c.args.self.now in
    let new = as_seen g.S.Standing.seen c.tell_all.new.self in
    subst (λ (list : List Event). TellsEach list old new)
    (ap (λ (each : Event). take place events ++ each ∷ []) c.event-item.is ∙ sym (take_more events place event c.loop-event-test.true))
    (each_more (take place events) event old (as_seen g.S.Standing.seen c.loop-event.self) new c.loop-event.invariant c.in_ok-tell_all.ensures.ok)
