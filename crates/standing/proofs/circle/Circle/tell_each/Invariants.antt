use Rattle.std.proofs.Common.{take}
use Rattle.standing.specs.Circles.{as_seen, TellsEach}
use Rattle.standing.proofs.circle.Circle.tell_each.Given as goal

abbrev pub invariant-loop-event : goal.invariant-loop-event
invariant-loop-event g l = TellsEach (take l.event-index l.events) (as_seen g.S.Standing.seen l.initial.self) (as_seen g.S.Standing.seen l.self)
