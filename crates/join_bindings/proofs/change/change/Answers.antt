use Rattle.std.proofs.Common.{◌+◌, take, ◌∙◌}
use Rattle.rpq_base.proofs.Members.{next_one}
use Rattle.join_bindings.proofs.Changing.{put_more, apart_before}
use Rattle.join_bindings.proofs.change.change.Goals as goal

pub loop-event-preserved : goal.loop-event-preserved
loop-event-preserved c =
    let events = c.args.events.now in
    let index = c.loop-event.event-index in
    let one = c.event-item.result in (
      put_more c.args.sets.now c.loop-event.sets c.take_event.new.self (take index events) (take (index + 1) events) one
          (next_one events index one c.loop-event-test.true c.event-item.is)
          (apart_before events index one c.requires.apart c.loop-event-test.true c.event-item.is)
          c.in_ok-take_event.ensures.put c.loop-event.invariant.0,
      c.in_ok-take_event.ensures.many ∙ c.loop-event.invariant.1,
    )
