use Rattle.std.proofs.Common.{take}
use Rattle.two_way.proofs.Staying.{HasStaying}
use Rattle.two_way.proofs.netting.add_staying.Given as goal

-- of the events so far those are added that stay
abbrev pub invariant-loop-event : goal.invariant-loop-event
invariant-loop-event l = HasStaying l.fn.events.items (take l.event-index l.own) l.others l.events.items
