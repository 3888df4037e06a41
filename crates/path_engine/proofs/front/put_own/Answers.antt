use Rattle.std.proofs.Common.{◌≡◌, ◌++◌, set, sym, ◌∙◌, arith, Vec, Global}
use Rattle.std.proofs.lemmas.List.{length-map}
use Rattle.end_events.specs.declared.numbered_event.NumberedEvent.{NumberedEvent}
use Rattle.path_engine.specs.Front.{put_at}
use Rattle.path_engine.proofs.Fronts.{items_of, items_push, on_ok, put_inside, put_past}
use Rattle.path_engine.proofs.front.put_own.Goals as goal

pub returns-then-place-len : goal.returns-then-place-len
returns-then-place-len c =
    let events = c.args.events.now in
    let before = c.index_mut.result.now in
    let after = c.push_all.new.events in
    on_ok (after.items ≡ before.items ++ c.args.own.items)
    (items_of (set events.items c.args.place after)
    ≡ put_at c.args.place (items_of events.items) c.args.own.items)
    (λ grew.
    put_inside c.args.place events.items before after c.args.own.items
    (omega (arith, c.if-place-len.true, c.len.ensures, events.ok.0)) c.index_mut.ensures.value grew)
    c.push_all.result c.push_all.ensures

pub returns-in_ok-push : goal.returns-in_ok-push
returns-in_ok-push c =
    let events = c.args.events.now in
    items_push events.items c.push.new.self.items c.args.own c.in_ok-push.ensures.items
    ∙ sym (put_past c.args.place (items_of events.items) c.args.own.items
    (omega (
      arith,
      c.if-place-len.false,
      c.len.ensures,
      events.ok.0,
      length-map events.items (λ (each : Vec NumberedEvent Global). each.items),
    )))
